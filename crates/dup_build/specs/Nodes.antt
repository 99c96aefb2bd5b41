-- What is kept of an object that is done.
use Rattle.std.specs.Prelude.{◌≡◌, ◌<◌, ◌||◌, Bool, List, [], ◌∷◌, map, Option, Some, None, IsTrue, if◌then◌else◌}
use Rattle.dup_names.specs.declared.object.Obj.{Obj}
use Rattle.dup_names.specs.declared.object.Item.{Item}
use Rattle.dup_names.specs.declared.value.Piece.{Piece}
use Rattle.dup_names.specs.declared.value.Piece.TheVariants as piece
use Rattle.dup_model.specs.Content.{Content}
use Rattle.dup_model.specs.Skeletons.{reads, embeds, skeleton}
use Rattle.dup_names.specs.Objects.{is_in}
use Rattle.dup_build.specs.declared.node.Node.{Node}
use Rattle.dup_build.specs.declared.node.Shown.{Shown}
use Rattle.dup_model.specs.Touched.{without}
use Rattle.dup_sets.specs.Entries.{at, objs}

-- the object of a hole
abbrev pub held : Piece → List Obj
held (piece.Plain bytes) = []
held (piece.Hole o) = o ∷ []

abbrev pub items_of : Option Node → List Item
items_of None = []
items_of (Some n) = map (λ note. note.0) n.expanded.value.notes

abbrev pub children_of : Option Node → List Obj
children_of None = []
children_of (Some n) = n.children

-- the children of an object that isn't dropped
abbrev pub below : List (Obj × Node) → List Obj → Obj → List Obj
below nodes dropped o = if is_in dropped o then [] else children_of (at nodes o)

-- an object has a look that isn't stale, or is one of these others
abbrev pub seen : List (Obj × Shown) → List Obj → List Obj → Obj → Bool
seen looks stale others o = is_in (without (is_in stale) (objs looks)) o || is_in others o

-- children are of earlier templates
abbrev pub ChildrenEarlier : List (Obj × Node) → Type 0
ChildrenEarlier nodes = (o g : Obj) → IsTrue (is_in (children_of (at nodes o)) g) → g.template < o.template

-- what is kept of o is its own at a content
pub record IsNode (c : Content) (o : Obj) (n : Node) : Type 0 where
  pub items : map (λ note. note.0) n.expanded.value.notes ≡ reads c o
  pub skeleton : n.expanded.value.skeleton ≡ skeleton c o
  pub children : n.children ≡ embeds c o
