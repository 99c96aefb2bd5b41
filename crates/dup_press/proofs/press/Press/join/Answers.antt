use Rattle.std.proofs.Common.{subst}
use Rattle.dup_build.specs.Answers.{joined_told}
use Rattle.dup_machine.specs.Presses.{join_step}
use Rattle.dup_machine.specs.World as machine
use Rattle.dup_press.specs.Pressed.{Pressed, Tells}
use Rattle.dup_press.proofs.Pressing.{keeps_joined}
use Rattle.dup_press.proofs.press.Press.join.Goals as goal

pub invariant_of-self-2 : goal.invariant_of-self-2
invariant_of-self-2 g c = keeps_joined (g.O.Outlet.admits c.self.inside.outlet) c.self.inside.workshop (g.O.Outlet.log c.self.inside.outlet) c.self.inside.published c.self.inside.changed c.self.inside.schedule c.self.invariant c.join.new.self _ c.in_ok-joined.ensures.step c.in_ok-joined.ensures.journal

pub returns-clause-step : goal.returns-clause-step
returns-clause-step g c =
    subst (λ (p : Pressed). Tells (join_step p.works.journal.site p.works.work p.works.target) p (machine.Told.Joins (joined_told c.in_ok-joined.joined))
    (record { works = c.join.new.self; log = g.O.Outlet.log c.self.inside.outlet; place = g.O.Outlet.place c.self.inside.outlet })) c.self.view_is
    (c.in_ok-joined.ensures.step (g.O.Outlet.log c.self.inside.outlet))
