use Rattle.std.proofs.Common.{sym, ap, subst, ◌∙◌}
use Rattle.dup_machine.specs.Presses.{put_step}
use Rattle.dup_template.specs.Frame.{frame_of}
use Rattle.dup_press.specs.Pressed.{Pressed, TellsPut}
use Rattle.dup_press.proofs.Pressing.{keeps_answered}
use Rattle.dup_press.proofs.press.Press.put.Goals as goal

pub invariant_of-self-2 : goal.invariant_of-self-2
invariant_of-self-2 g c =
    keeps_answered (g.O.Outlet.admits c.self.inside.outlet) c.self.inside.workshop (g.O.Outlet.log c.self.inside.outlet) c.self.inside.published c.self.inside.changed c.self.inside.schedule c.self.invariant c.put.new.self c.args.expanded.value.obj c.args.expanded.value.notes c.args.expanded.value.frame c.in_ok-put.put
    c.in_ok-put.ensures.foreign.0 c.in_ok-put.ensures.stays c.in_ok-put.ensures.ours c.in_ok-put.ensures.step c.in_ok-put.ensures.journal

pub returns-clause-step : goal.returns-clause-step
returns-clause-step g c = λ is.
    subst (λ (p : Pressed). TellsPut (put_step p.works.journal.site c.args.expanded.value.obj c.args.expanded.value.notes p.works.work p.works.target) p c.args.expanded.value.obj c.in_ok-put.put
    (record { works = c.put.new.self; log = g.O.Outlet.log c.self.inside.outlet; place = g.O.Outlet.place c.self.inside.outlet })) c.self.view_is
    (c.in_ok-put.ensures.step (is ∙ sym (ap (λ (p : Pressed). frame_of p.works.journal.site) c.self.view_is)) (g.O.Outlet.log c.self.inside.outlet))
