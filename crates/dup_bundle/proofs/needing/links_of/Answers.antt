use Rattle.std.proofs.Common.{ap, ◌∙◌}
use Rattle.dup_model.specs.Editions.{has}
use Rattle.dup_model.specs.Needs.{links}
use Rattle.dup_bundle.proofs.Steps.{has_by_bytes}
use Rattle.dup_bundle.proofs.needing.links_of.Goals as goal

pub returns-in-Some : goal.returns-in-Some
returns-in-Some c = λ q.
    ap (λ l. has l q) (c.items.ensures ∙ ap (λ look. look.links) c.deref.ensures)
    ∙ has_by_bytes c.in-Some.look.now.value.links q
    ∙ ap (λ look. links look q) c.in-Some.ensures
