use Rattle.std.proofs.Common.{length}
use Rattle.dup_chunks.proofs.cut.+cut.Given as goal

abbrev pub decreases-cut : goal.decreases-cut
decreases-cut g l = length l.items.now
