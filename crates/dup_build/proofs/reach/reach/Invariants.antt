use Rattle.std.proofs.Common.{take}
use Rattle.dup_build.specs.Nodes.{below, seen}
use Rattle.dup_machine.specs.Reached.{Walked}
use Rattle.dup_build.proofs.reach.reach.Given as goal

abbrev pub invariant-loop-root : goal.invariant-loop-root
invariant-loop-root l = Walked (below l.nodes l.dropped) (seen l.looks l.stale l.others) (take l.root-index l.roots) l.initial.fresh l.fresh
