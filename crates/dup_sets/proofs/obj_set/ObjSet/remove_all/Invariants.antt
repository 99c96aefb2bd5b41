use Rattle.std.proofs.Common.{◌≡◌, take}
use Rattle.dup_names.specs.Objects.{is_in}
use Rattle.dup_model.specs.Touched.{without}
use Rattle.dup_sets.proofs.obj_set.ObjSet.remove_all.Given as goal

abbrev pub invariant-loop-obj : goal.invariant-loop-obj
invariant-loop-obj l = l.self ≡ without (is_in (take l.obj-index l.objs)) l.initial.self
