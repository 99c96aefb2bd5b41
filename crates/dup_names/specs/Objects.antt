-- Sameness of objects.
use Rattle.std.specs.Prelude.{◌==◌, Bool, ◌&&◌, List, bytes_eq}
use Rattle.std.specs.List.{list_any}
use Rattle.std.specs.Option.{option_eq}
use Rattle.dup_names.specs.declared.object.Obj.{Obj}

abbrev pub same_obj : Obj → Obj → Bool
same_obj a b = a.template == b.template && option_eq bytes_eq a.key b.key

-- one of these objects
abbrev pub is_in : List Obj → Obj → Bool
is_in objs o = list_any (same_obj o) objs
