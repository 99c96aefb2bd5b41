use Rattle.std.proofs.Common.{◌≡◌, ◌++◌, take}
use Rattle.std.specs.List.{flat_map}
use Rattle.dup_chunks.specs.Chunks.{AreChunks}
use Rattle.dup_chunks.proofs.edits.push_shared.Given as goal

abbrev pub invariant-loop-chunk : goal.invariant-loop-chunk
invariant-loop-chunk g l = record {
  value : flat_map (λ c. c.value) l.made.items ≡ flat_map (λ c. c.value) l.initial.made.items ++ flat_map (λ c. c.value) (take l.chunk-index l.chunks);
  chunks : AreChunks (λ c. c.value) l.made.items;
}
