use Rattle.std.proofs.Common.{refl, subst}
use Rattle.dup_build.specs.Answers.{begun_told}
use Rattle.dup_build.specs.declared.answers.Begun.{Begun}
use Rattle.dup_machine.specs.Presses.{begin_step}
use Rattle.dup_machine.specs.World as machine
use Rattle.dup_model.specs.Embeddings.{EmbedsEarlier}
use Rattle.dup_press.specs.Pressed.{Tells}
use Rattle.dup_press.specs.declared.answers.Summary.{Summary}
use Rattle.dup_press.proofs.Looping.{not_nothing_begun, same_twice}
use Rattle.dup_press.proofs.Settled.{left_idle, left_made, settled_at_once, settled_by_work}
use Rattle.dup_press.proofs.Summaries.{Outcome, outcome_by_work, outcome_if_nothing}
use Rattle.dup_press.proofs.Reaching.{whatever, ran_begin, ran_none, reached_here, reached_onward}
use Rattle.dup_press.specs.Pressed.{pressed}
use Rattle.dup_press.proofs.press.Press.settle.Goals as goal

any_summary : Summary
any_summary = record { version = 0; edition = 0; bundles = 0; expanded = 0; joined = 0; kept = 0 }

pub publish_left-requires-clause-idle : goal.publish_left-requires-clause-idle
publish_left-requires-clause-idle g c =
    left_idle c.args.self.now c.begin.new.self c.begin.new.self any_summary c.in_ok-begin.ensures.place c.in-Nothing.field-0
    (subst (λ (b : Begun). Tells (begin_step c.args.self.now.works.journal.site c.args.self.now.works.work c.args.self.now.works.target) c.args.self.now (machine.Told.Begins (begun_told b)) c.begin.new.self) c.in-Nothing.is c.in_ok-begin.ensures.step)

pub publish_left-requires-clause-made : goal.publish_left-requires-clause-made
publish_left-requires-clause-made g c =
    left_made c.args.self.now c.begin.new.self c.begin.new.self any_summary c.in_ok-begin.ensures.place c.in-Nothing.field-0
    (subst (λ (b : Begun). Tells (begin_step c.args.self.now.works.journal.site c.args.self.now.works.work c.args.self.now.works.target) c.args.self.now (machine.Told.Begins (begun_told b)) c.begin.new.self) c.in-Nothing.is c.in_ok-begin.ensures.step)

pub returns-in_ok-summary-in-Nothing-clause-settled : goal.returns-in_ok-summary-in-Nothing-clause-settled
returns-in_ok-summary-in-Nothing-clause-settled g c =
    settled_at_once c.args.self.now c.begin.new.self c.publish_left.new.self c.in_ok-summary-in-Nothing.summary c.in_ok-begin.ensures.place c.in-Nothing.field-0
    (subst (λ (b : Begun). Tells (begin_step c.args.self.now.works.journal.site c.args.self.now.works.work c.args.self.now.works.target) c.args.self.now (machine.Told.Begins (begun_told b)) c.begin.new.self) c.in-Nothing.is c.in_ok-begin.ensures.step)
    c.in_ok-summary-in-Nothing.ensures.published

pub returns-in_ok-summary-in-Nothing-clause-published : goal.returns-in_ok-summary-in-Nothing-clause-published
returns-in_ok-summary-in-Nothing-clause-published g c =
    (outcome_if_nothing c.args.self.now c.begin.new.self c.publish_left.new.self c.in_ok-summary-in-Nothing.summary c.in_ok-begin.field-0 c.in-Nothing.field-0 c.args.meter.now
    c.in_ok-begin.ensures.place c.in-Nothing.is c.in_ok-begin.ensures.step c.in_ok-summary-in-Nothing.ensures.published).published

pub returns-in_ok-summary-in-Nothing-clause-meter : goal.returns-in_ok-summary-in-Nothing-clause-meter
returns-in_ok-summary-in-Nothing-clause-meter g c =
    (outcome_if_nothing c.args.self.now c.begin.new.self c.publish_left.new.self c.in_ok-summary-in-Nothing.summary c.in_ok-begin.field-0 c.in-Nothing.field-0 c.args.meter.now
    c.in_ok-begin.ensures.place c.in-Nothing.is c.in_ok-begin.ensures.step c.in_ok-summary-in-Nothing.ensures.published).meter

pub returns-in_ok-summary-in-Nothing-clause-counts : goal.returns-in_ok-summary-in-Nothing-clause-counts
returns-in_ok-summary-in-Nothing-clause-counts g c =
    (outcome_if_nothing c.args.self.now c.begin.new.self c.publish_left.new.self c.in_ok-summary-in-Nothing.summary c.in_ok-begin.field-0 c.in-Nothing.field-0 c.args.meter.now
    c.in_ok-begin.ensures.place c.in-Nothing.is c.in_ok-begin.ensures.step c.in_ok-summary-in-Nothing.ensures.published).counts

pub returns-in_ok-summary-in_default : goal.returns-in_ok-summary-in_default
returns-in_ok-summary-in_default g c =
    let outcome : Outcome c.args.self.now c.args.meter.now c.in_ok-summary-in_default.summary c.work_off.new.self c.work_off.new.meter =
    outcome_by_work c.args.self.now c.begin.new.self c.work_off.new.self c.in_ok-summary-in_default.summary c.in_ok-begin.ensures.place (begun_told c.in_ok-begin.field-0)
    c.in_ok-begin.ensures.step (not_nothing_begun c.in_ok-begin.field-0 c.in_default.not-Nothing)
    (subst EmbedsEarlier c.content.ensures c.content_known.ensures) c.args.meter.now c.work_off.new.meter c.in_ok-summary-in_default.ensures.worked in
    record {
      settled = settled_by_work c.args.self.now c.begin.new.self c.work_off.new.self c.in_ok-summary-in_default.summary c.in_ok-begin.ensures.place (begun_told c.in_ok-begin.field-0)
          c.in_ok-begin.ensures.step c.args.meter.now c.work_off.new.meter c.in_ok-summary-in_default.ensures.worked;
      published = outcome.published;
      meter = outcome.meter;
      counts = outcome.counts;
      place = same_twice c.args.self.now c.begin.new.self c.work_off.new.self c.in_ok-begin.ensures.place c.in_ok-summary-in_default.ensures.place;
      err = tt;
    }

pub returns-in_err-begin-clause-err : goal.returns-in_err-begin-clause-err
returns-in_err-begin-clause-err g c =
    let old = c.args.self.now in
    whatever c.from_residual.result (reached_here old old c.begin.new.self (ran_none old.works.journal.site (pressed old) (pressed old) refl) c.in_err-begin.ensures.err)

pub returns-in_err-summary-in-Nothing-clause-err : goal.returns-in_err-summary-in-Nothing-clause-err
returns-in_err-summary-in-Nothing-clause-err g c =
    let old = c.args.self.now in
    whatever c.from_residual-in_err-summary-in-Nothing.result (reached_onward old c.begin.new.self c.publish_left.new.self
    (ran_begin old.works.journal.site (pressed old) (pressed c.begin.new.self) (machine.Told.Begins (begun_told c.in_ok-begin.field-0)) c.in_ok-begin.ensures.step)
    c.in_ok-begin.ensures.place c.in_err-summary-in-Nothing.ensures.err)

pub returns-in_err-summary-in_default-clause-err : goal.returns-in_err-summary-in_default-clause-err
returns-in_err-summary-in_default-clause-err g c =
    let old = c.args.self.now in
    whatever c.from_residual-in_err-summary-in_default.result (reached_onward old c.begin.new.self c.work_off.new.self
    (ran_begin old.works.journal.site (pressed old) (pressed c.begin.new.self) (machine.Told.Begins (begun_told c.in_ok-begin.field-0)) c.in_ok-begin.ensures.step)
    c.in_ok-begin.ensures.place c.in_err-summary-in_default.ensures.err)
