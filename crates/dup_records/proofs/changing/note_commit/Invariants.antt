use Rattle.std.proofs.Common.{take}
use Rattle.dup_records.specs.Moved.{Notes, moved_by_commit}
use Rattle.dup_records.proofs.changing.note_commit.Given as goal

abbrev pub invariant-loop-change : goal.invariant-loop-change
invariant-loop-change l = Notes l.initial.noted.keys l.noted.keys (moved_by_commit l.old l.new (take l.change-index l.change-items))
