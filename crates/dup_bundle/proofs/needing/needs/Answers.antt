use Rattle.std.proofs.Common.{Bool, ◌||◌, ◌&&◌, ap, ◌∙◌}
use Rattle.std.specs.List.{list_any}
use Rattle.std.specs.Ordering.{eq_by_cmp}
use Rattle.std.specs.Option.{is_some}
use Rattle.dup_names.specs.Order.{text_cmp}
use Rattle.dup_names.specs.Words.{Path}
use Rattle.dup_model.specs.Editions.{edition, has, looks}
use Rattle.dup_bundle.specs.Between.{is_needed}
use Rattle.dup_bundle.proofs.Exact.{needed_there, page_there}
use Rattle.dup_bundle.proofs.Steps.{at_and}
use Rattle.dup_bundle.proofs.needing.needs.Goals as goal

pub returns-clause-needed : goal.returns-clause-needed
returns-clause-needed c = λ q.
    let need : Path → Bool = is_needed c.args.edition.now c.of.result c.args.path.now in
    let shown : Bool = list_any (λ p. eq_by_cmp text_cmp q p.value.path && need p.value.path) c.pages.result.now in
    let linked : Bool = list_any (λ p. eq_by_cmp text_cmp q p && need p) c.links_of.result.now in
    ap (λ l. has l q) c.in_ok-paths.ensures.value
    ∙ c.in_ok-add_linked.ensures q
    ∙ ap (λ b. b || linked) (c.in_ok-add_shown.ensures q ∙ ap (λ l. has l q || shown) c.new-found.ensures.empty
    ∙ at_and (λ p. p.value.path) need q c.pages.result.now ∙ ap (λ b. b && need q) (page_there c.pages.result.now (edition c.args.edition.now.log) c.pages.ensures q))
    ∙ ap (λ b. (is_some (looks (edition c.args.edition.now.log) q) && need q) || b) (at_and (λ p. p) need q c.links_of.result.now ∙ ap (λ b. b && need q) (c.links_of.ensures q))
    ∙ needed_there (edition c.args.edition.now.log) c.of.result.pages c.args.path.now q
    ∙ ap (λ t. is_needed c.args.edition.now t c.args.path.now q) c.of.ensures
