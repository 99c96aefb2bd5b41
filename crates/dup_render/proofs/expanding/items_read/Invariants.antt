use Rattle.std.proofs.Common.{◌≡◌, take}
use Rattle.std.specs.List.{flat_map}
use Rattle.dup_model.specs.Skeletons.{read_by}
use Rattle.dup_render.proofs.expanding.items_read.Given as goal

abbrev pub invariant-loop-mark : goal.invariant-loop-mark
invariant-loop-mark l = l.items.items ≡ flat_map read_by (take l.mark-index l.marks)
