use Rattle.std.proofs.Common.{◌≡◌, take}
use Rattle.std.specs.List.{flat_map}
use Rattle.dup_graph.specs.Graph.{parents}
use Rattle.dup_build.proofs.levels.parents_counted.Given as goal

abbrev pub invariant-loop-obj : goal.invariant-loop-obj
invariant-loop-obj g l = l.made.items ≡ flat_map (parents l.graph) (take l.obj-index l.level)
