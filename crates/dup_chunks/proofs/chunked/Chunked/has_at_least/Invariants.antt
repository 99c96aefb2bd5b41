use Rattle.std.proofs.Common.{◌≡◌, ◌+◌, length, take}
use Rattle.std.specs.List.{flat_map}
use Rattle.dup_chunks.proofs.chunked.Chunked.has_at_least.Given as goal

abbrev pub invariant-loop-chunk : goal.invariant-loop-chunk
invariant-loop-chunk g l = length (flat_map (λ c. c.value) (take l.chunk-index l.chunk-items)) + l.rest ≡ l.count
