use Rattle.std.proofs.Common.{◌≡◌, map, length}
use Rattle.std.specs.Cmp.Lexicographic.{pointwise}
use Rattle.dup_names.specs.Words.{same}
use Rattle.dup_chunks.specs.Cut.{front}
use Rattle.dup_records.specs.Pairs.{Pair}
use Rattle.dup_records.proofs.index.have_first_keys.Given as goal

abbrev pub invariant-loop-pair : goal.invariant-loop-pair
invariant-loop-pair g l =
    pointwise same (map (λ q. q.1) (front (λ (q : Pair). same q.0 l.text) l.pairs)) l.rest ≡ pointwise same (map (λ q. q.1) (front (λ (q : Pair). same q.0 l.text) l.fn.pairs)) l.keys

abbrev pub decreases-loop-pair : goal.decreases-loop-pair
decreases-loop-pair g l = length l.pairs
