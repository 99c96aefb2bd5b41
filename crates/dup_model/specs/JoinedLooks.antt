-- A look from the object's skeleton and the looks of what it embeds. The laws above: `uses_law`,
-- `incremental_law`.
use Rattle.std.specs.Prelude.{◌≡◌, ◌||◌, List, [], ◌∷◌, ◌++◌, map, Option, Some, None}
use Rattle.std.specs.List.{find, flat_map, list_any}
use Rattle.std.specs.declared.cmp.Ordering.{Ordering}
use Rattle.dup_names.specs.Order.{obj_cmp, text_cmp}
use Rattle.dup_names.specs.declared.object.Obj.{Obj}
use Rattle.dup_names.specs.declared.value.Look.{Look}
use Rattle.dup_names.specs.declared.value.Piece.{Piece}
use Rattle.dup_names.specs.declared.value.Piece.TheVariants as piece
use Rattle.dup_names.specs.declared.value.Skeleton.{Skeleton}
use Rattle.dup_names.specs.Words.{Word, in_order}
use Rattle.dup_model.specs.Content.{Content}
use Rattle.dup_model.specs.Show.{show}
use Rattle.dup_model.specs.Skeletons.{skeleton, embeds}
use Rattle.dup_model.specs.Looks.{uses, look}
use Rattle.dup_names.specs.Objects.{same_obj}
use Rattle.dup_model.specs.Touched.{touched, affected}
use Rattle.dup_model.specs.Embeddings.{EmbedsEarlier}

-- a piece's bytes, a hole's by `below`
abbrev pub filled : (Obj → Word) → Piece → Word
filled below (piece.Plain bytes) = bytes
filled below (piece.Hole o) = below o

-- the bytes are the pieces with the holes filled, and uses and links are the unions with the object's own
pub record IsJoined (c : Content) (o : Obj) : Type 0 where
  pub bytes : show c o ≡ flat_map (filled (show c)) (skeleton c o).pieces
  pub uses : uses c o ≡ in_order obj_cmp (o ∷ flat_map (uses c) (embeds c o))
  pub links : (look c o).links ≡ in_order text_cmp ((skeleton c o).links
      ++ flat_map (λ f. (look c f).links) (embeds c o))

abbrev pub LooksAreJoined : Type 0
LooksAreJoined = (c : Content) (o : Obj) → EmbedsEarlier c → IsJoined c o

-- an object is affected where it is touched or embeds an affected one
abbrev pub AffectedUpwards : Type 0
AffectedUpwards = (a b : Content) (o : Obj) → EmbedsEarlier a →
    affected a b o ≡ (touched a b o || list_any (affected a b) (embeds a o))

-- what one of these looks shows of an object, nothing where none is of it
abbrev pub bytes_in : Option Look → Word
bytes_in None = []
bytes_in (Some look) = look.bytes

abbrev pub shown_in : List Look → Obj → Word
shown_in looks g = bytes_in (find (λ look. same_obj g look.obj) looks)

-- pairs of an object and its bytes, by object
abbrev pub use_cmp : Obj × Word → Obj × Word → Ordering
use_cmp a b = obj_cmp a.0 b.0

-- the look of an object by its skeleton and the looks of what it embeds, whatever content they are of
abbrev pub joined_look : Obj → Skeleton → List Look → Look
joined_look o skeleton looks =
    let bytes = flat_map (filled (shown_in looks)) skeleton.pieces in record {
      obj = o;
      bytes = bytes;
      uses = in_order use_cmp ((o, bytes) ∷ flat_map (λ look. look.uses) looks);
      links = in_order text_cmp (skeleton.links ++ flat_map (λ look. look.links) looks);
    }

-- from the skeleton and the looks at a content it is the look at that content
abbrev pub LooksFromParts : Type 0
LooksFromParts = (c : Content) (o : Obj) → EmbedsEarlier c →
    joined_look o (skeleton c o) (map (look c) (embeds c o)) ≡ look c o
