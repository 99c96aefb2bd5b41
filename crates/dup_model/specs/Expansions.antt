-- What is read of an object at a content, when that is stale, and which expansions are good. The law above:
-- `expansions_law`.
use Rattle.std.specs.Prelude.{◌≡◌, List, map, not, Option, None}
use Rattle.std.specs.List.{AllByRecursion, find}
use Rattle.dup_names.specs.declared.object.Item.{Item}
use Rattle.dup_names.specs.declared.object.Obj.{Obj}
use Rattle.dup_template.specs.declared.value.Value.{Value}
use Rattle.dup_names.specs.declared.value.Skeleton.{Skeleton}
use Rattle.dup_template.specs.Frame.{Frame}
use Rattle.dup_model.specs.Content.{Content, value}
use Rattle.dup_model.specs.Skeletons.{reads, skeleton}
use Rattle.dup_model.specs.Touched.{same_value}

pub record Expansion : Type 0 where
  pub frame : Frame
  pub obj : Obj
  pub notes : List (Item × Value)
  pub skeleton : Skeleton

-- what was read of an object at a content
abbrev pub notes : Content → Obj → List (Item × Value)
notes c o = map (λ it. (it, value c it)) (reads c o)

-- the first note that isn't the value at c
abbrev pub stale : Content → List (Item × Value) → Option (Item × Value)
stale c notes = find (λ n. not (same_value (value c n.0) n.1)) notes

-- each note has its value
abbrev pub Holds : Content → List (Item × Value) → Type 0
Holds c notes = AllByRecursion (λ n. value c n.0 ≡ n.1) notes

-- in every content of the frame where the notes hold, the noted items are what the object reads, and the
-- skeleton is its own
pub record IsGoodExpansion (e : Expansion) : Type 0 where
  pub items : (c : Content) → c.frame ≡ e.frame → Holds c e.notes → map (λ n. n.0) e.notes ≡ reads c e.obj
  pub gives : (c : Content) → c.frame ≡ e.frame → Holds c e.notes → skeleton c e.obj ≡ e.skeleton

-- what is expanded at a content
abbrev pub expansion : Content → Obj → Expansion
expansion c o = record { frame = c.frame; obj = o; notes = notes c o; skeleton = skeleton c o }

abbrev pub ExpansionsAreGood : Type 0
ExpansionsAreGood = (c : Content) (o : Obj) → IsGoodExpansion (expansion c o)

-- a good expansion, from whatever version, is the object's where no note is stale
abbrev pub GoodIsRight : Type 0
GoodIsRight = (e : Expansion) (c : Content) → IsGoodExpansion e → c.frame ≡ e.frame → stale c e.notes ≡ None →
    (map (λ n. n.0) e.notes ≡ reads c e.obj) × (e.skeleton ≡ skeleton c e.obj)
