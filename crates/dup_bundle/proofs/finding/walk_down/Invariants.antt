use Rattle.std.proofs.Common.{◌+◌, ◌-◌, ◌*◌, length}
use Rattle.dup_bundle.specs.Between.{is_needed}
use Rattle.dup_bundle.specs.Hinted.{AreDone}
use Rattle.dup_bundle.proofs.Walk.{IsWalk}
use Rattle.dup_bundle.proofs.finding.walk_down.Given as goal

abbrev pub invariant-loop-path : goal.invariant-loop-path
invariant-loop-path l =
    IsWalk (is_needed l.edition l.target) l.changed l.start l.seen.keys l.due.items
    × AreDone l.ways.hints l.done l.seen.keys

abbrev pub decreases-loop-path : goal.decreases-loop-path
decreases-loop-path l = 2 * (length l.changed - length l.seen.keys) + length l.due.items
