use Rattle.std.proofs.Common.{rules, subst}
use Rattle.std.specs.Prelude.{Option}
use Rattle.std.specs.Option.{option_map}
use Rattle.dup_names.specs.declared.object.Obj.{Obj}
use Rattle.dup_machine.specs.Builds.{Build, hand_in}
use Rattle.dup_machine.specs.Presses.{hand_step}
use Rattle.dup_press.specs.Worked.{IsHand, Worked}
use Rattle.dup_press.proofs.Works.{keeps_handed, step_of, worked}
use Rattle.dup_press.proofs.workshop.Workshop.hand.Goals as goal

pub invariant_of-self-2 : goal.invariant_of-self-2
invariant_of-self-2 c = keeps_handed c.self.inside.journal c.self.inside.build c.hand.new.self c.self.invariant (search rules)

pub returns-clause-step : goal.returns-clause-step
returns-clause-step c =
    let j = c.self.inside.journal in
    let b = c.self.inside.build in
    subst (λ (w : Worked). IsHand (hand_step w.journal.site w.work w.target) w (option_map (λ job. job.obj) c.in_ok-job.job) (worked j c.hand.new.self)) c.self.view_is
    (λ log. step_of (Option Obj) j b c.hand.new.self log (λ (x : Build). ((hand_in b.works.work x).0, (hand_in b.works.work x).1))
    (option_map (λ job. job.obj) c.in_ok-job.job) c.self.invariant.works (search rules) (search rules))
