use Rattle.std.proofs.Common.{subst}
use Rattle.dup_build.specs.Answers.{begun_told}
use Rattle.dup_machine.specs.Presses.{begin_step}
use Rattle.dup_machine.specs.World as machine
use Rattle.dup_press.specs.Pressed.{Pressed, Tells}
use Rattle.dup_press.proofs.Pressing.{keeps_begun}
use Rattle.dup_press.proofs.press.Press.begin.Goals as goal

pub invariant_of-self-2 : goal.invariant_of-self-2
invariant_of-self-2 g c = keeps_begun (g.O.Outlet.admits c.self.inside.outlet) c.self.inside.workshop (g.O.Outlet.log c.self.inside.outlet) c.self.inside.published c.self.inside.changed c.self.inside.schedule c.self.invariant c.begin.new.self _ c.in_ok-begun.ensures.step c.in_ok-begun.ensures.journal

pub returns-clause-step : goal.returns-clause-step
returns-clause-step g c =
    subst (λ (p : Pressed). Tells (begin_step p.works.journal.site p.works.work p.works.target) p (machine.Told.Begins (begun_told c.in_ok-begun.begun))
    (record { works = c.begin.new.self; log = g.O.Outlet.log c.self.inside.outlet; place = g.O.Outlet.place c.self.inside.outlet })) c.self.view_is
    (c.in_ok-begun.ensures.step (g.O.Outlet.log c.self.inside.outlet))
