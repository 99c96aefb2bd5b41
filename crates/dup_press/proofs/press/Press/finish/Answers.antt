use Rattle.std.proofs.Common.{ap, subst, sym, ◌∙◌}
use Rattle.std.specs.Prelude.{Result, IfErr}
use Rattle.dup_build.specs.Answers.{IsUnclosed, finish_told}
use Rattle.dup_build.specs.declared.answers.Closing.{Closing}
use Rattle.dup_build.specs.declared.answers.Finish.{Finish}
use Rattle.dup_machine.specs.Presses.{finish_step}
use Rattle.dup_machine.specs.World as machine
use Rattle.dup_press.specs.Pressed.{Pressed, Tells, pressed}
use Rattle.dup_press.specs.Worked.{IsStep, Worked, press_of}
use Rattle.dup_press.proofs.press.Press.finish.Goals as goal

pub returns-in-Err-clause-step : goal.returns-in-Err-clause-step
returns-in-Err-clause-step g c =
    let shop = c.self.inside.workshop in
    let told : machine.Told = machine.Told.Finished (finish_told c.in-Err.finish) in
    let unclosed = subst (λ (r : Result Closing Finish). IfErr r (λ finish. IsUnclosed finish × IsStep (finish_step shop.journal.site shop.work shop.target) shop (machine.Told.Finished (finish_told finish)) shop)) c.in-Err.is c.in_ok-finish.ensures.unclosed in
    subst (λ (p : Pressed). Tells (finish_step p.works.journal.site p.works.work p.works.target) p told p) c.self.view_is (unclosed.1 (g.O.Outlet.log c.self.inside.outlet))
    ∙ ap (λ (p : Pressed). (told, pressed p)) (sym c.self.view_is)
    ∙ ap (λ (w : Worked). (told, press_of (g.O.Outlet.log c.self.inside.outlet) w)) (sym c.closing.ensures.stays)
