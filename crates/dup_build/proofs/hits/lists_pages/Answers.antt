use Rattle.std.proofs.Common.{ap, sym, ◌∙◌}
use Rattle.std.specs.List.{list_any}
use Rattle.dup_template.specs.Frame.{Frame}
use Rattle.dup_template.specs.declared.site.Parts.{Parts}
use Rattle.dup_build.specs.Paged.{is_family_of, lists_pages}
use Rattle.dup_build.proofs.hits.lists_pages.Goals as goal

pub returns-in-List : goal.returns-in-List
returns-in-List c =
    c.has_family.ensures
    ∙ ap (list_any (is_family_of c.args.content.now.frame c.in-List.kind)) (c.page_rules.ensures.value ∙ ap (λ (s : Parts). s.pages) c.deref.ensures ∙ ap (λ (f : Frame). f.pages) (sym c.site.ensures.frame))
    ∙ ap (lists_pages c.args.content.now.frame) (sym c.in-List.is)
