use Rattle.std.proofs.Common.{take, map}
use Rattle.dup_records.specs.Moved.{AreNoted, moved_by}
use Rattle.dup_records.proofs.changing.noted_by.Given as goal

abbrev pub invariant-loop-commit : goal.invariant-loop-commit
invariant-loop-commit l = AreNoted l.noted.keys (moved_by l.old l.new (map (λ c. c.value) (take l.commit-index l.commits)))
