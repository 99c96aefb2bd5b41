use Rattle.std.proofs.Common.{◌≡◌, true, false, Some, length, take}
use Rattle.dup_names.specs.declared.object.Obj.{Obj}
use Rattle.dup_names.specs.Objects.{is_in}
use Rattle.dup_model.specs.Touched.{without}
use Rattle.dup_sets.specs.Entries.{at, objs}
use Rattle.dup_build.specs.Nodes.{below}
use Rattle.dup_build.proofs.missing.count_missing.Given as goal

abbrev pub invariant-loop-obj : goal.invariant-loop-obj
invariant-loop-obj l = record {
  counted : (x : Obj) → is_in (take l.obj-index l.among) x ≡ true → at l.missing x ≡ Some (length (without (is_in (without (is_in l.stale) (objs l.looks))) (below l.nodes l.dropped x)));
  others : (x : Obj) → is_in l.among x ≡ false → at l.missing x ≡ at l.initial.missing x;
}
