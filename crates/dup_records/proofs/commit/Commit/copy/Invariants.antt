use Rattle.std.proofs.Common.{◌≡◌, take}
use Rattle.dup_records.proofs.commit.Commit.copy.Given as goal

abbrev pub invariant-loop-change : goal.invariant-loop-change
invariant-loop-change l = l.made.items ≡ take l.change-index l.change-items
