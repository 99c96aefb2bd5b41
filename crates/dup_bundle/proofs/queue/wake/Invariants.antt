use Rattle.std.proofs.Common.{◌≡◌, ◌⊎◌, true}
use Rattle.dup_names.specs.Words.{Path}
use Rattle.dup_model.specs.Editions.{has}
use Rattle.dup_bundle.specs.Hinted.{linkers_of}
use Rattle.dup_bundle.proofs.Paths.{IsInOrder}
use Rattle.dup_bundle.proofs.queue.wake.Given as goal

abbrev pub invariant-loop-path : goal.invariant-loop-path
invariant-loop-path l =
    (goal.iterator-loop-path).can_next l.path-iterator
    × (goal.iterator-loop-path).is_finite l.path-iterator
    × ((p : Path) → has l.initial.ready.keys p ≡ true → has l.ready.keys p ≡ true)
    × ((p q : Path) → has l.out.keys q ≡ true → has (linkers_of l.waiting q) p ≡ true → (has l.ready.keys p ≡ true) ⊎ (has l.path-iterator q ≡ true))
    × IsInOrder l.ready.keys
