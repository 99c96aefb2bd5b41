use Rattle.std.proofs.Common.{◌+◌, ◌-◌, ◌≤◌, length, take}
use Rattle.dup_build.specs.Loose.{LeavesPages}
use Rattle.dup_build.proofs.survey.pages_left.Given as goal

abbrev pub invariant-loop-old_at : goal.invariant-loop-old_at
invariant-loop-old_at l = record {
  in_old : l.old_at ≤ length l.old;
  in_new : l.new_at ≤ length l.new;
  so_far : LeavesPages (take l.old_at l.old) l.new l.left.items;
}

abbrev pub decreases-loop-old_at : goal.decreases-loop-old_at
decreases-loop-old_at l = (length l.old - l.old_at) + (length l.new - l.new_at)
