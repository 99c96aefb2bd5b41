use Rattle.std.proofs.Common.{◌≡◌, ◌++◌, take}
use Rattle.dup_names.specs.Order.{obj_cmp}
use Rattle.dup_names.specs.Words.{in_order}
use Rattle.dup_sets.proofs.obj_set.ObjSet.add_all.Given as goal

abbrev pub invariant-loop-obj : goal.invariant-loop-obj
invariant-loop-obj l = l.self ≡ in_order obj_cmp (take l.obj-index l.objs ++ l.initial.self)
