use Rattle.std.proofs.Common.{sym, ap, ◌∙◌}
use Rattle.dup_names.specs.Objects.{is_in}
use Rattle.dup_walk.proofs.Walking.{is_in_tie}
use Rattle.dup_walk.proofs.walk.readers.Goals as goal

pub returns-clause-objects : goal.returns-clause-objects
returns-clause-objects g c = λ z.
    ap (λ l. is_in l z) c.in_ok-objs.ensures
    ∙ sym (is_in_tie c.in_ok-found.found.seen.keys z) ∙ c.in_ok-found.ensures.found.seen z ∙ is_in_tie c.in_ok-found.found.order.items z
    ∙ c.in_ok-found.ensures.members z
