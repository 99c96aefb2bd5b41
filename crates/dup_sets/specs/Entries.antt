-- Entries of objects.
use Rattle.std.specs.Prelude.{List, [], ◌∷◌, map, Option}
use Rattle.std.specs.BTreeMap.{insert_entry}
use Rattle.std.specs.Map.{lookup}
use Rattle.dup_names.specs.Order.{obj_cmp}
use Rattle.dup_names.specs.declared.object.Obj.{Obj}
use Rattle.dup_names.specs.Objects.{same_obj}

-- what is kept of an object, if anything
abbrev pub at : {T : Type 0} → List (Obj × T) → Obj → Option T
at entries o = lookup (same_obj o) entries

-- the objects of which something is kept
abbrev pub objs : {T : Type 0} → List (Obj × T) → List Obj
objs entries = map (λ e. e.0) entries

-- the entries in the order of their objects, the first of each object alone: they are of the same objects, and have the same of each
abbrev pub by_object : {T : Type 0} → List (Obj × T) → List (Obj × T)
by_object [] = []
by_object (e ∷ es) = insert_entry obj_cmp (by_object es) e.0 e.1
