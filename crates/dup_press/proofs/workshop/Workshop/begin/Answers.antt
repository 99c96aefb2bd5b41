use Rattle.std.proofs.Common.{rules, length, sym, ap, subst, ◌∙◌}
use Rattle.dup_build.specs.Answers.{begun_told}
use Rattle.dup_machine.specs.Builds.{Build, begin_in}
use Rattle.dup_machine.specs.Presses.{begin_step, begun_version}
use Rattle.dup_machine.specs.World as machine
use Rattle.dup_model.specs.Versions.{content}
use Rattle.dup_press.specs.Worked.{IsStep, Worked}
use Rattle.dup_press.proofs.Works.{keeps_begun, since_begun, step_of, worked}
use Rattle.dup_press.proofs.workshop.Workshop.begin.Goals as goal

pub begin-requires : goal.begin-requires
begin-requires c = record {
  commits = c.content.ensures
      ∙ since_begun c.self.inside.journal.site c.self.inside.journal.commits c.self.inside.build.works c.begun-begun.result c.self.invariant.works
      (c.begun-begun.ensures ∙ ap (λ (w : Worked). begun_version w.work w.target) (sym c.self.view_is))
      ∙ search rules;
}

pub invariant_of-self-2 : goal.invariant_of-self-2
invariant_of-self-2 c = keeps_begun c.self.inside.journal c.self.inside.build c.begin.new.self c.self.invariant (search rules)

pub returns-clause-step : goal.returns-clause-step
returns-clause-step c =
    let j = c.self.inside.journal in
    let b = c.self.inside.build in
    subst (λ (w : Worked). IsStep (begin_step w.journal.site w.work w.target) w (machine.Told.Begins (begun_told c.in_ok-begun.begun)) (worked j c.begin.new.self)) c.self.view_is
    (λ log. step_of machine.Told j b c.begin.new.self log
    (λ (x : Build). (
      machine.Told.Begins (begin_in (length j.commits) (content j.site j.commits) b.works.work b.works.target x).0,
      (begin_in (length j.commits) (content j.site j.commits) b.works.work b.works.target x).1,
    ))
    (machine.Told.Begins (begun_told c.in_ok-begun.begun)) c.self.invariant.works (search rules) (search rules))
