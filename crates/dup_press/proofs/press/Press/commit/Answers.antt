use Rattle.std.proofs.Common.{subst}
use Rattle.std.specs.Prelude.{IfErr, IfOk}
use Rattle.dup_machine.specs.Presses.{commit_step}
use Rattle.dup_machine.specs.World as machine
use Rattle.dup_model.specs.Journal.{commit_refusal}
use Rattle.dup_records.specs.Refusals.{Names}
use Rattle.dup_press.specs.Pressed.{Pressed, Tells}
use Rattle.dup_press.proofs.Pressing.{committed_there, keeps_committed}
use Rattle.dup_press.proofs.press.Press.commit.Goals as goal

pub invariant_of-self : goal.invariant_of-self
invariant_of-self g c =
    keeps_committed (g.O.Outlet.admits c.self.inside.outlet) c.self.inside.workshop (g.O.Outlet.log c.self.inside.outlet) c.self.inside.published c.self.inside.changed c.self.inside.schedule c.self.invariant c.self.inside.workshop.journal.limits c.commit.new.self c.args.commit c.commit.result
    c.commit.ensures.step c.commit.ensures.ok c.commit.ensures.err

pub returns-clause-step : goal.returns-clause-step
returns-clause-step g c =
    subst (λ (p : Pressed). IfOk c.commit.result (λ v. Tells (commit_step c.args.commit (commit_refusal p.works.journal.site p.works.journal.limits p.works.journal.commits c.args.commit)) p (machine.Told.Committed v)
    (record { works = c.commit.new.self; log = g.O.Outlet.log c.self.inside.outlet; place = g.O.Outlet.place c.self.inside.outlet }))) c.self.view_is
    (committed_there c.self.inside.workshop c.commit.new.self (g.O.Outlet.log c.self.inside.outlet)
    (commit_step c.args.commit (commit_refusal c.self.inside.workshop.journal.site c.self.inside.workshop.journal.limits c.self.inside.workshop.journal.commits c.args.commit)) c.commit.result c.commit.ensures.step)

pub returns-clause-refused : goal.returns-clause-refused
returns-clause-refused g c =
    subst (λ (p : Pressed). IfErr c.commit.result (λ why. Names why (commit_refusal p.works.journal.site p.works.journal.limits p.works.journal.commits c.args.commit))) c.self.view_is
    c.commit.ensures.refused
