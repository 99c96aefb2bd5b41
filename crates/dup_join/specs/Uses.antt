-- Uses by their objects, as they are put one after the other.
use Rattle.std.specs.Prelude.{List}
use Rattle.std.specs.List.{fold}
use Rattle.std.specs.BTreeMap.{insert_entry}
use Rattle.dup_names.specs.Words.{Word}
use Rattle.dup_names.specs.declared.object.Obj.{Obj}
use Rattle.dup_names.specs.contracts.object.ObjOrd.TheImpl.{ghosts as order}

-- a use at its place in the order of objects, or instead of the one that its object had
abbrev pub with_use : List (Obj × Word) → Obj × Word → List (Obj × Word)
with_use uses one = insert_entry order.cmp uses one.0 one.1

-- these uses put one after the other
abbrev pub with_uses : List (Obj × Word) → List (Obj × Word) → List (Obj × Word)
with_uses uses more = fold with_use uses more
