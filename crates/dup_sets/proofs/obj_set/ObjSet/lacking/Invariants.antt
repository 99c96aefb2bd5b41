use Rattle.std.proofs.Common.{◌≡◌, take}
use Rattle.dup_names.specs.Objects.{is_in}
use Rattle.dup_model.specs.Touched.{without}
use Rattle.dup_sets.proofs.obj_set.ObjSet.lacking.Given as goal

abbrev pub invariant-loop-obj : goal.invariant-loop-obj
invariant-loop-obj l = l.out.items ≡ without (is_in l.self) (take l.obj-index l.objs)
