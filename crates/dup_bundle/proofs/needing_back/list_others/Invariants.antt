use Rattle.std.proofs.Common.{◌&&◌}
use Rattle.dup_model.specs.Editions.{has}
use Rattle.dup_bundle.specs.Between.{is_needed}
use Rattle.dup_bundle.specs.Waiting.{Adds}
use Rattle.dup_bundle.proofs.needing_back.list_others.Given as goal

abbrev pub invariant-loop-other : goal.invariant-loop-other
invariant-loop-other l = Adds (λ q. has l.changed q && is_needed l.edition l.target q l.path) l.initial.found.items l.found.items
