use Rattle.std.proofs.Common.{rules, subst}
use Rattle.dup_build.specs.Answers.{joined_told}
use Rattle.dup_machine.specs.Builds.{Build, join_in}
use Rattle.dup_machine.specs.Presses.{join_step}
use Rattle.dup_machine.specs.World as machine
use Rattle.dup_press.specs.Worked.{IsStep, Worked}
use Rattle.dup_press.proofs.Works.{step_of, worked}
use Rattle.dup_press.proofs.workshop.Workshop.join.Goals as goal

pub returns-clause-step : goal.returns-clause-step
returns-clause-step g c =
    let j = c.self.inside.journal in
    let b = c.self.inside.build in
    subst (λ (w : Worked). IsStep (join_step w.journal.site w.work w.target) w (machine.Told.Joins (joined_told c.in_ok-joined.joined)) (worked j c.join.new.self)) c.self.view_is
    (λ log. step_of machine.Told j b c.join.new.self log (λ (x : Build). (machine.Told.Joins (join_in b.works.work x).0, (join_in b.works.work x).1))
    (machine.Told.Joins (joined_told c.in_ok-joined.joined)) c.self.invariant.works (search rules) (search rules))
