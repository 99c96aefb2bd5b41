use Rattle.dup_press.specs.Pressed.{pressed}
use Rattle.dup_press.proofs.Looping.{IsJoining}
use Rattle.dup_press.proofs.Settling.{content_of, to_join}
use Rattle.dup_press.proofs.press.Press.join_all.Given as goal

abbrev pub invariant-loop : goal.invariant-loop
invariant-loop g l = IsJoining l.initial.self l.self

abbrev pub decreases-loop : goal.decreases-loop
decreases-loop g l = to_join (content_of l.initial.self.works.journal.site (pressed l.self)) l.self.works.work
