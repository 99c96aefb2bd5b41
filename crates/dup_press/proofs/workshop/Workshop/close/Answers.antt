use Rattle.std.proofs.Common.{rules, sym, ap, subst, ◌∙◌}
use Rattle.dup_build.specs.Answers.{finish_told}
use Rattle.dup_build.specs.Built.{Built}
use Rattle.dup_build.specs.Closing.{IsClosing}
use Rattle.dup_machine.specs.Builds.{Build, finish_in}
use Rattle.dup_machine.specs.Presses.{finish_step}
use Rattle.dup_machine.specs.World as machine
use Rattle.dup_press.specs.Worked.{IsStep, Worked, built_of}
use Rattle.dup_press.proofs.Works.{closed_target, keeps_finished, same_built, step_of, worked}
use Rattle.dup_press.proofs.workshop.Workshop.close.Goals as goal

pub close-requires : goal.close-requires
close-requires c =
    subst (λ (b : Built). IsClosing b c.args.closing) (same_built c.self.inside.journal c.self.inside.build c.self.invariant)
    (subst (λ (w : Worked). IsClosing (built_of w) c.args.closing) (sym c.self.view_is) c.requires)

pub invariant_of-self-2 : goal.invariant_of-self-2
invariant_of-self-2 c = keeps_finished c.self.inside.journal c.self.inside.build c.close.new.self c.self.invariant (search rules)

pub returns-clause-step : goal.returns-clause-step
returns-clause-step c =
    let j = c.self.inside.journal in
    let b = c.self.inside.build in
    subst (λ (w : Worked). IsStep (finish_step w.journal.site w.work w.target) w (machine.Told.Finished (finish_told c.in_ok-finish.finish)) (worked j c.close.new.self)) c.self.view_is
    (λ log. step_of machine.Told j b c.close.new.self log (λ (x : Build). (machine.Told.Finished (finish_in b.works.work x).0, (finish_in b.works.work x).1))
    (machine.Told.Finished (finish_told c.in_ok-finish.finish)) c.self.invariant.works (search rules) (search rules))

pub returns-clause-target : goal.returns-clause-target
returns-clause-target c =
    let j = c.self.inside.journal in
    let b = c.self.inside.build in
    let closing : IsClosing b c.args.closing = subst (λ (x : Built). IsClosing x c.args.closing) (same_built j b c.self.invariant)
    (subst (λ (w : Worked). IsClosing (built_of w) c.args.closing) (sym c.self.view_is) c.requires) in
    ap (λ (x : Built). x.works.target) c.in_ok-finish.ensures.build
    ∙ closed_target j.site j.commits b b.works.work c.args.closing.target.version c.self.invariant.works (search rules) closing.busy closing.calm closing.joined closing.version
