-- What is reached from some objects, past those that were seen.
use Rattle.std.specs.Prelude.{◌≡◌, Bool, false, List, [], IsTrue, if◌then◌else◌}
use Rattle.dup_names.specs.declared.object.Obj.{Obj}
use Rattle.dup_model.specs.Content.{Content}
use Rattle.dup_model.specs.Skeletons.{embeds}
use Rattle.dup_names.specs.Objects.{is_in}

-- one of the roots, or below one that is reached; what was seen isn't reached
pub data Reached (below : Obj → List Obj) (is_seen : Obj → Bool) (roots : List Obj) : Obj → Type 0 where
  root : {g : Obj} → IsTrue (is_in roots g) → is_seen g ≡ false → Reached below is_seen roots g
  onward : {f : Obj} → Reached below is_seen roots f → (g : Obj) → IsTrue (is_in (below f) g) →
      is_seen g ≡ false → Reached below is_seen roots g

-- what an object embeds, where it is done
abbrev pub opened : Content → List Obj → Obj → List Obj
opened c done f = if is_in done f then embeds c f else []

-- a walk from these roots took the set from old to new: what it put in is reached, and all that is below this
-- is in
pub record Walked (below : Obj → List Obj) (is_seen : Obj → Bool) (roots old new : List Obj) : Type 0 where
  pub rooted : (g : Obj) → IsTrue (is_in roots g) → is_seen g ≡ false → IsTrue (is_in new g)
  pub keeps : (g : Obj) → IsTrue (is_in old g) → IsTrue (is_in new g)
  pub onward : (f g : Obj) → IsTrue (is_in new f) → is_in old f ≡ false → IsTrue (is_in (below f) g) →
      is_seen g ≡ false → IsTrue (is_in new g)
  pub only : (g : Obj) → IsTrue (is_in new g) → is_in old g ≡ false → Reached below is_seen roots g
