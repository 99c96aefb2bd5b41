use Rattle.std.proofs.Common.{◌≡◌, cond, take}
use Rattle.std.specs.List.{fold}
use Rattle.dup_names.specs.declared.object.Obj.{Obj}
use Rattle.dup_names.specs.Objects.{is_in}
use Rattle.dup_graph.specs.Graph.{parents}
use Rattle.dup_sets.specs.Entries.{at}
use Rattle.dup_build.specs.Missing.{less}
use Rattle.dup_build.proofs.missing.lower_counted.Given as goal

abbrev pub invariant-loop-obj : goal.invariant-loop-obj
invariant-loop-obj g l = (x : Obj) → at l.missing x ≡ fold (λ n o. cond (is_in (parents l.graph o) x) (less n) n) (at l.initial.missing x) (take l.obj-index l.level)
