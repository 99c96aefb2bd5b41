use Rattle.std.proofs.Common.{◌≡◌, ◌++◌, map, length}
use Rattle.dup_records.proofs.keys.keys_of.Given as goal

abbrev pub invariant-loop-row : goal.invariant-loop-row
invariant-loop-row g l = l.made.items ++ map (λ e. e.0) l.rows ≡ map (λ e. e.0) l.fn.rows

abbrev pub decreases-loop-row : goal.decreases-loop-row
decreases-loop-row g l = length l.rows
