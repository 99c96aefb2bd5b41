-- Looks that are kept.
use Rattle.std.specs.Prelude.{List, [], ◌∷◌, Option, Some, if◌then◌else◌}
use Rattle.std.specs.Option.{option_map}
use Rattle.dup_names.specs.declared.object.Obj.{Obj}
use Rattle.dup_names.specs.declared.value.Look.{Look}
use Rattle.dup_names.specs.Objects.{same_obj}
use Rattle.dup_build.specs.declared.node.Shown.{Shown}
use Rattle.dup_sets.specs.Entries.{at}

-- the look that is kept of an object, if any
abbrev pub look_at : List (Obj × Shown) → Obj → Option Look
look_at looks q = option_map (λ s. s.look.value) (at looks q)

-- the last of these looks that is of the object, else what there was
abbrev pub last_look : Obj → Option Look → List Look → Option Look
last_look q had [] = had
last_look q had (l ∷ ls) = last_look q (if same_obj q l.obj then Some l else had) ls
