use Rattle.std.proofs.Common.{take}
use Rattle.dup_build.specs.Nodes.{below, seen}
use Rattle.dup_machine.specs.Reached.{Walked}
use Rattle.dup_build.proofs.reach.+visit.Given as goal

abbrev pub decreases-visit : goal.decreases-visit
decreases-visit l = l.obj.now.template

abbrev pub invariant-loop-child : goal.invariant-loop-child
invariant-loop-child l = Walked (below l.nodes l.dropped) (seen l.looks l.stale l.others) (take l.child-index l.children) l.initial.fresh l.fresh
