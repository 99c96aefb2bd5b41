use Rattle.std.proofs.Common.{◌≡◌, ◌++◌, take, map}
use Rattle.dup_names.specs.declared.object.Item.TheVariants as item
use Rattle.dup_model.specs.declared.mark.Mark.TheVariants as mark
use Rattle.dup_render.proofs.marks.put_reads.Given as goal

abbrev pub invariant-loop-key : goal.invariant-loop-key
invariant-loop-key l = l.out.items ≡ l.initial.out.items ++ map (λ q. mark.Read (item.Field l.kind q l.field)) (take l.key-index l.keys)
