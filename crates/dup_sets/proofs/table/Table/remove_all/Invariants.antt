use Rattle.std.proofs.Common.{◌≡◌, take, cond, None}
use Rattle.dup_names.specs.declared.object.Obj.{Obj}
use Rattle.dup_names.specs.Objects.{is_in}
use Rattle.dup_model.specs.Touched.{without}
use Rattle.dup_sets.specs.Entries.{at, objs}
use Rattle.dup_sets.proofs.table.Table.remove_all.Given as goal

abbrev pub invariant-loop-obj : goal.invariant-loop-obj
invariant-loop-obj g l = record {
  at_each : (q : Obj) → at l.self q ≡ cond (is_in (take l.obj-index l.gone) q) None (at l.initial.self q);
  of_objs : objs l.self ≡ without (is_in (take l.obj-index l.gone)) (objs l.initial.self);
}
