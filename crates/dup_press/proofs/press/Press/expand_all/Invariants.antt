use Rattle.dup_press.specs.Pressed.{pressed}
use Rattle.dup_press.proofs.Looping.{IsExpanding}
use Rattle.dup_press.proofs.Settling.{content_of, to_expand}
use Rattle.dup_press.proofs.press.Press.expand_all.Given as goal

abbrev pub invariant-loop-job : goal.invariant-loop-job
invariant-loop-job g l = IsExpanding l.initial.self l.initial.meter l.self l.meter

abbrev pub decreases-loop-job : goal.decreases-loop-job
decreases-loop-job g l = to_expand (content_of l.initial.self.works.journal.site (pressed l.self)) l.self.works.work
