use Rattle.std.proofs.Common.{◌≡◌, map, length}
use Rattle.std.specs.Cmp.Lexicographic.{pointwise}
use Rattle.dup_names.specs.Words.{same}
use Rattle.dup_records.proofs.keys.have_keys.Given as goal

abbrev pub invariant-loop-row : goal.invariant-loop-row
invariant-loop-row g l = pointwise same (map (λ e. e.0) l.rows) l.rest ≡ pointwise same (map (λ e. e.0) l.fn.rows) l.keys

abbrev pub decreases-loop-row : goal.decreases-loop-row
decreases-loop-row g l = length l.rows
