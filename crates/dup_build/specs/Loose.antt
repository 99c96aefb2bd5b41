-- Objects that nothing holds any more: neither a page shows them, nor an object embeds them that is kept.
use Rattle.std.specs.Prelude.{◌≡◌, ◌||◌, ◌++◌, Bool, false, List, map, IsTrue}
use Rattle.std.specs.List.{list_any}
use Rattle.dup_names.specs.Words.{Path}
use Rattle.dup_names.specs.declared.object.Obj.{Obj}
use Rattle.dup_names.specs.Objects.{is_in}
use Rattle.dup_model.specs.Touched.{without}
use Rattle.dup_graph.specs.Graph.{Nodes, node_at}
use Rattle.dup_build.specs.declared.node.Node.{Node}
use Rattle.dup_build.specs.declared.node.Shown.{Shown}
use Rattle.dup_build.specs.Nodes.{below, children_of}
use Rattle.dup_sets.specs.Entries.{at, objs}

-- the objects that these pages show
abbrev pub shown_by : List (Path × Obj) → List Obj
shown_by pages = map (λ p. p.1) pages

-- a graph has the children of these nodes
abbrev pub HasChildren : Nodes → List (Obj × Node) → Type 0
HasChildren graph nodes = (p : Obj) → IsTrue (is_in (objs nodes) p) →
    (node_at graph p).children ≡ children_of (at nodes p)

-- one of the nodes that aren't gone embeds the object
abbrev pub is_embedded : List (Obj × Node) → List Obj → Obj → Bool
is_embedded nodes gone o = list_any (λ p. is_in (below nodes gone p) o) (objs nodes)

-- the object is one of these roots, or such a node embeds it
abbrev pub is_held : List Obj → List (Obj × Node) → List Obj → Obj → Bool
is_held roots nodes gone o = is_in roots o || is_embedded nodes gone o

-- of the objects with nodes that aren't gone, all that aren't held are among the loose ones
abbrev pub HoldsBut : List Obj → List (Obj × Node) → List Obj → List Obj → Type 0
HoldsBut roots nodes gone loose = (o : Obj) → IsTrue (is_in (without (is_in gone) (objs nodes)) o) →
    is_held roots nodes gone o ≡ false → IsTrue (is_in loose o)

-- what is gone had a node, and isn't held by what isn't gone
pub record AreGone (roots : List Obj) (nodes : List (Obj × Node)) (gone : List Obj) : Type 0 where
  pub kept : (o : Obj) → IsTrue (is_in gone o) → IsTrue (is_in (objs nodes) o)
  pub free : (o : Obj) → IsTrue (is_in gone o) → is_held roots nodes gone o ≡ false

-- letting go of these objects took what is gone from old to new: of them none is loose any more
pub record LetGo (roots : List Obj) (nodes : List (Obj × Node)) (let_go old new : List Obj) : Type 0 where
  pub sound : AreGone roots nodes old → AreGone roots nodes new
  pub held : (loose : List Obj) → HoldsBut roots nodes old (let_go ++ loose) → HoldsBut roots nodes new loose

-- of what the old pages show, all that the new ones don't is among these objects
abbrev pub LeavesPages : List (Path × Obj) → List (Path × Obj) → List Obj → Type 0
LeavesPages old new left = (o : Obj) → IsTrue (is_in (shown_by old) o) → is_in (shown_by new) o ≡ false →
    IsTrue (is_in left o)

-- among the loose objects are those that were loose before, what the dropped nodes embed, and the objects
-- whose pages left
pub record Loosened (old_pages : List (Path × Obj)) (old_loose : List Obj) (nodes : List (Obj × Node))
    (dropped : List Obj) (pages : List (Path × Obj)) (loose : List Obj) : Type 0 where
  pub before : (o : Obj) → IsTrue (is_in old_loose o) → IsTrue (is_in loose o)
  pub embedded : (p o : Obj) → IsTrue (is_in dropped p) → IsTrue (is_in (children_of (at nodes p)) o) →
      IsTrue (is_in loose o)
  pub left : LeavesPages old_pages pages loose

-- of these objects, all that have no look are among those
abbrev pub HadNoLook : List Obj → List (Obj × Shown) → List Obj → Type 0
HadNoLook roots looks unjoined = (o : Obj) → IsTrue (is_in roots o) → is_in (objs looks) o ≡ false →
    IsTrue (is_in unjoined o)

-- these are roots, among them all that have no look which isn't stale
pub record AreStarts (roots : List Obj) (looks : List (Obj × Shown)) (stale starts : List Obj) : Type 0 where
  pub rooted : (o : Obj) → IsTrue (is_in starts o) → IsTrue (is_in roots o)
  pub all : (o : Obj) → IsTrue (is_in roots o) → is_in (without (is_in stale) (objs looks)) o ≡ false →
      IsTrue (is_in starts o)
