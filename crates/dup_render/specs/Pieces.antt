-- The pieces of a skeleton from left to right.
use Rattle.std.specs.Prelude.{List, ◌++◌}
use Rattle.dup_names.specs.Words.{Word}
use Rattle.dup_names.specs.declared.value.Piece.{Piece}
use Rattle.dup_model.specs.declared.mark.Mark.{Mark}
use Rattle.dup_model.specs.Skeletons.{before, pieces}

-- the pieces so far, then the loose bytes, which join those that begin the rest, and the pieces of the
-- remaining marks
abbrev pub with_rest : List Piece → Word → List Mark → List Piece
with_rest made loose rest = made ++ before loose (pieces rest)
