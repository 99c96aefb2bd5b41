use Rattle.std.proofs.Common.{◌≡◌, take}
use Rattle.std.specs.List.{flat_map}
use Rattle.dup_model.specs.Skeletons.{goes_by}
use Rattle.dup_render.proofs.expanding.paths_linked.Given as goal

abbrev pub invariant-loop-mark : goal.invariant-loop-mark
invariant-loop-mark l = l.paths.items ≡ flat_map goes_by (take l.mark-index l.marks)
