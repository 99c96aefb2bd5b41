use Rattle.std.proofs.Common.{take}
use Rattle.dup_build.specs.Loose.{shown_by, LetGo}
use Rattle.dup_build.proofs.loose.let_all_go.Given as goal

abbrev pub invariant-loop-obj : goal.invariant-loop-obj
invariant-loop-obj l = LetGo (shown_by l.pages) l.nodes (take l.obj-index l.free) l.initial.gone l.gone
