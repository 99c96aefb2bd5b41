use Rattle.std.proofs.Common.{sym, ap, ◌∙◌}
use Rattle.std.proofs.lemmas.List.{at_drop_all}
use Rattle.std.specs.List.{flat_map}
use Rattle.dup_names.specs.Words.{in_order}
use Rattle.dup_template.specs.declared.site.Parts.{Parts}
use Rattle.dup_template.specs.Frame.{Frame}
use Rattle.dup_model.specs.Pages.{pages_of}
use Rattle.dup_pages.specs.Listing.{with_pages}
use Rattle.dup_pages.proofs.InOrder.{by_path, with_pages_in_order}
use Rattle.dup_pages.proofs.listing.pages_by_path.Goals as goal

pub returns : goal.returns
returns c =
    let rules = c.page_rules-rule-items.result.now in
    let all = c.page_rules-rule-items.ensures.value ∙ (ap (λ (s : Parts). s.pages) c.deref.ensures ∙ sym (ap (λ (f : Frame). f.pages) c.site.ensures.frame)) in
    sym (at_drop_all (λ rest. with_pages c.loop-rule.made.entries (flat_map (pages_of c.args.content.now) rest)) rules c.loop-rule.rule-index c.loop-rule-test.false)
    ∙ (c.loop-rule.invariant
    ∙ (with_pages_in_order (flat_map (pages_of c.args.content.now) rules)
    ∙ ap (λ rest. in_order by_path (flat_map (pages_of c.args.content.now) rest)) all))
