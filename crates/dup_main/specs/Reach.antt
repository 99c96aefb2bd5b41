-- How far a check reads.
use Rattle.std.specs.Prelude.{◌≡◌, ◌≤◌, ℕ, ◌++◌, Option, Some, length}
use Rattle.std.specs.Option.{option_map}
use Rattle.dup_io.specs.declared.lines.TheConstants.{PIECE_BYTES}
use Rattle.dup_names.specs.Lines.{Reading, reading}
use Rattle.dup_names.specs.Words.{Word}
use Rattle.dup_transcript.specs.Inputs.{script}

-- what a source has left stands behind the site text of a reading; but for one piece that a reader of lines
-- took it is all that does
abbrev pub LeavesScript : Option Reading → Option Word → Type 0
LeavesScript (Some all) (Some left) =
    (piece : Word) × (number : ℕ) × (taken : ℕ) × (length piece ≤ PIECE_BYTES)
    × (script all ≡ reading number taken (piece ++ left))
LeavesScript _ _ = Unit {0}

-- where the source tells its bytes, no more of them was read than the site text and that piece
abbrev pub ReadsNoFurther : Option Word → Option Word → Type 0
ReadsNoFurther input left = LeavesScript (option_map (reading 0 0) input) left
