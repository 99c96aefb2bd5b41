-- One object by itself, up to each embedding: what it reads, what it embeds, where its links go, and its
-- skeleton. The law above: `columns_law`.
use Rattle.std.specs.Prelude.{List, [], ◌∷◌, ◌++◌}
use Rattle.std.specs.List.{flat_map}
use Rattle.dup_names.specs.Order.{text_cmp, obj_cmp, item_cmp}
use Rattle.dup_names.specs.declared.object.Obj.{Obj}
use Rattle.dup_names.specs.declared.object.Item.{Item}
use Rattle.dup_names.specs.declared.value.Piece.{Piece}
use Rattle.dup_names.specs.declared.value.Piece.TheVariants as piece
use Rattle.dup_names.specs.declared.value.Skeleton.{Skeleton}
use Rattle.dup_model.specs.declared.mark.Mark.{Mark}
use Rattle.dup_model.specs.declared.mark.Mark.TheVariants as mark
use Rattle.dup_names.specs.Words.{Word, Path, in_order}
use Rattle.dup_model.specs.Content.{Content}
use Rattle.dup_model.specs.Marks.{marks}

-- the item that a mark reads, if any; its embedded object; the path of its link
abbrev pub read_by : Mark → List Item
read_by (mark.Read it) = it ∷ []
read_by _ = []

abbrev pub hole_of : Mark → List Obj
hole_of (mark.Hole o) = o ∷ []
hole_of _ = []

abbrev pub goes_by : Mark → List Path
goes_by (mark.Goes path) = path ∷ []
goes_by _ = []

-- the items that an object reads, the objects that it embeds, and the paths of its links, each in order and
-- once
abbrev pub reads : Content → Obj → List Item
reads c o = in_order item_cmp (flat_map read_by (marks c o))

abbrev pub embeds : Content → Obj → List Obj
embeds c o = in_order obj_cmp (flat_map hole_of (marks c o))

abbrev pub goes : Content → Obj → List Path
goes c o = in_order text_cmp (flat_map goes_by (marks c o))

-- bytes before the pieces, joined with those that begin them
abbrev pub before : Word → List Piece → List Piece
before [] ps = ps
before (b ∷ bs) [] = piece.Plain (b ∷ bs) ∷ []
before (b ∷ bs) (piece.Plain more ∷ ps) = piece.Plain (b ∷ (bs ++ more)) ∷ ps
before (b ∷ bs) (piece.Hole o ∷ ps) = piece.Plain (b ∷ bs) ∷ (piece.Hole o ∷ ps)

-- bytes that stand together are one piece, and an embedding is a hole
abbrev pub pieces : List Mark → List Piece
pieces [] = []
pieces (mark.Plain bytes ∷ ms) = before bytes (pieces ms)
pieces (mark.Hole o ∷ ms) = piece.Hole o ∷ pieces ms
pieces (_ ∷ ms) = pieces ms

abbrev pub skeleton : Content → Obj → Skeleton
skeleton c o = record { pieces = pieces (marks c o); links = goes c o }
