-- How much a reader of lines has taken off its source and not given yet.
use Rattle.std.proofs.Common.{◌≤◌, ◌-◌, length, drop, arith}
use Rattle.std.proofs.lemmas.List.{length-take}
use Rattle.dup_io.specs.Lines.{buffered}
use Rattle.dup_io.specs.declared.lines.Lines.{Lines}
use Rattle.dup_io.specs.declared.lines.TheConstants.{PIECE_BYTES}

-- they fit into its buffer
pub few_buffered : {S : Type 0} (lines : Lines S) → length (buffered lines) ≤ PIECE_BYTES
few_buffered lines = let h = lines.in_range in rw (length-take (lines.end - lines.start) (drop lines.start lines.buffer)) (omega (arith, h))
