use Rattle.std.proofs.Common.{◌≡◌, false}
use Rattle.std.specs.FinMap as fin
use Rattle.dup_names.specs.declared.object.Obj.{Obj}
use Rattle.dup_names.specs.Objects.{is_in}
use Rattle.dup_build.proofs.reads.drop_all.Given as goal

abbrev pub invariant-loop-obj : goal.invariant-loop-obj
invariant-loop-obj l = (o : Obj) → is_in l.gone o ≡ false → fin.get l.graph o ≡ fin.get l.initial.graph o
