use Rattle.std.proofs.Common.{subst}
use Rattle.std.specs.Option.{option_map}
use Rattle.dup_machine.specs.Presses.{hand_step}
use Rattle.dup_press.specs.Pressed.{Hands, Pressed}
use Rattle.dup_press.proofs.Pressing.{keeps_handed}
use Rattle.dup_press.proofs.press.Press.hand.Goals as goal

pub invariant_of-self-2 : goal.invariant_of-self-2
invariant_of-self-2 g c = keeps_handed (g.O.Outlet.admits c.self.inside.outlet) c.self.inside.workshop (g.O.Outlet.log c.self.inside.outlet) c.self.inside.published c.self.inside.changed c.self.inside.schedule c.self.invariant c.hand.new.self _ c.in_ok-job.ensures.step c.in_ok-job.ensures.journal

pub returns-clause-step : goal.returns-clause-step
returns-clause-step g c =
    subst (λ (p : Pressed). Hands (hand_step p.works.journal.site p.works.work p.works.target) p (option_map (λ j. j.obj) c.in_ok-job.job)
    (record { works = c.hand.new.self; log = g.O.Outlet.log c.self.inside.outlet; place = g.O.Outlet.place c.self.inside.outlet })) c.self.view_is
    (c.in_ok-job.ensures.step (g.O.Outlet.log c.self.inside.outlet))
