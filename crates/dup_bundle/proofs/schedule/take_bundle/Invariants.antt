use Rattle.std.proofs.Common.{◌≡◌, length}
use Rattle.dup_bundle.specs.Between.{is_needed}
use Rattle.dup_bundle.specs.Waiting.{AreWaiting}
use Rattle.dup_bundle.proofs.Paths.{IsInOrder}
use Rattle.dup_bundle.proofs.schedule.take_bundle.Given as goal

abbrev pub invariant-loop-path : goal.invariant-loop-path
invariant-loop-path l =
    IsInOrder l.queue.ready.keys
    × AreWaiting (is_needed l.edition l.target) l.left l.queue.ready.keys l.queue.waiting
    × (l.left ≡ l.initial.left)

abbrev pub decreases-loop-path : goal.decreases-loop-path
decreases-loop-path l = length l.queue.ready.keys
