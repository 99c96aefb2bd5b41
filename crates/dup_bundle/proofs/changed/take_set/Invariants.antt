use Rattle.std.proofs.Common.{◌≡◌, ◌&&◌, not}
use Rattle.dup_names.specs.Words.{Path}
use Rattle.dup_model.specs.Editions.{has}
use Rattle.dup_bundle.proofs.Paths.{IsInOrder}
use Rattle.dup_bundle.proofs.changed.take_set.Given as goal

abbrev pub invariant-loop-path : goal.invariant-loop-path
invariant-loop-path l =
    (goal.iterator-loop-path).can_next l.path-iterator
    × (goal.iterator-loop-path).is_finite l.path-iterator
    × ((q : Path) → (not (has l.path-iterator q) && has l.paths.keys q) ≡ (not (has l.gone.keys q) && has l.initial.paths.keys q))
    × IsInOrder l.paths.keys
