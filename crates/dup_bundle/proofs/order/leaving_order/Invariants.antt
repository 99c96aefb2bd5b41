use Rattle.std.proofs.Common.{◌≡◌, true, ◌-◌, length}
use Rattle.dup_names.specs.Words.{Path}
use Rattle.dup_model.specs.Editions.{has}
use Rattle.dup_bundle.proofs.Paths.{IsInOrder}
use Rattle.dup_bundle.proofs.order.leaving_order.Given as goal

abbrev pub invariant-loop-done : goal.invariant-loop-done
invariant-loop-done l =
    IsInOrder l.seen.keys
    × ((q : Path) → has l.seen.keys q ≡ true → has l.changed q ≡ true)

abbrev pub decreases-loop-done : goal.decreases-loop-done
decreases-loop-done l = length l.changed - length l.seen.keys
