use Rattle.std.proofs.Common.{◌≡◌, ◌++◌, take, map}
use Rattle.dup_names.specs.Order.{obj_cmp}
use Rattle.dup_names.specs.Words.{in_order}
use Rattle.dup_names.specs.declared.object.Obj.{Obj}
use Rattle.dup_sets.specs.Entries.{objs}
use Rattle.dup_build.specs.Looked.{look_at, last_look}
use Rattle.dup_build.proofs.stock.add_looks.Given as goal

abbrev pub invariant-loop-look : goal.invariant-loop-look
invariant-loop-look l = record {
  of_objs : objs l.looks ≡ in_order obj_cmp (take l.look-index l.level ++ objs l.initial.looks);
  at_each : (q : Obj) → look_at l.looks q ≡ last_look q (look_at l.initial.looks q) (map (λ k. k.value) (take l.look-index l.made));
}
