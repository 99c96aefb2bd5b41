use Rattle.std.proofs.Common.{◌≡◌, cond, take}
use Rattle.dup_names.specs.declared.object.Obj.{Obj}
use Rattle.dup_names.specs.Objects.{is_in}
use Rattle.dup_sets.specs.Entries.{at}
use Rattle.dup_build.specs.Missing.{less}
use Rattle.dup_build.proofs.missing.lower_each.Given as goal

abbrev pub invariant-loop-obj : goal.invariant-loop-obj
invariant-loop-obj l = (x : Obj) → at l.missing x ≡ cond (is_in (take l.obj-index l.among) x) (less (at l.initial.missing x)) (at l.initial.missing x)
