use Rattle.std.proofs.Common.{take}
use Rattle.dup_build.specs.Loose.{shown_by, LetGo}
use Rattle.dup_build.proofs.loose.+let_go.Given as goal

abbrev pub decreases-let_go : goal.decreases-let_go
decreases-let_go l = l.obj.now.template

abbrev pub invariant-loop-child : goal.invariant-loop-child
invariant-loop-child l = LetGo (shown_by l.pages) l.nodes (take l.child-index l.children) l.initial.gone l.gone
