use Rattle.std.proofs.Common.{subst}
use Rattle.dup_machine.specs.Presses.{commit_step}
use Rattle.dup_machine.specs.World as machine
use Rattle.dup_model.specs.Journal.{commit_refusal}
use Rattle.dup_press.specs.Worked.{IsStep, Worked}
use Rattle.dup_press.proofs.Works.{committed_step, told_of, worked}
use Rattle.dup_press.proofs.workshop.Workshop.commit.Goals as goal

pub returns-clause-step : goal.returns-clause-step
returns-clause-step c =
    let j = c.self.inside.journal in
    let b = c.self.inside.build in
    told_of c.commit.result _ _ _ _
    (λ v is accepted new_is. subst (λ (w : Worked). IsStep (commit_step c.args.commit (commit_refusal w.journal.site w.journal.limits w.journal.commits c.args.commit)) w
    (machine.Told.Committed v) (worked c.commit.new.self b)) c.self.view_is
    (committed_step j c.commit.new.self b c.args.commit v is accepted new_is))
    c.commit.ensures.version c.commit.ensures.accepted c.commit.ensures.ok
