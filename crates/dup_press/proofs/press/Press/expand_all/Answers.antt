use Rattle.std.proofs.Common.{◌≡◌, Option, Some, subst, sym}
use Rattle.std.specs.Prelude.{IfSome}
use Rattle.std.specs.Option.{option_map}
use Rattle.dup_build.specs.declared.job.Job.{Job}
use Rattle.dup_machine.specs.Presses.{begun_version, hand_step}
use Rattle.dup_model.specs.Versions.{version}
use Rattle.dup_press.specs.Pressed.{Hands, pressed}
use Rattle.dup_press.specs.Reached.{IsReached}
use Rattle.dup_template.specs.declared.site.Parts.{Parts}
use Rattle.dup_press.proofs.Looping.{expanding_calm, expanding_ends, expanding_less, expanding_more, no_some, over_frame}
use Rattle.dup_press.proofs.Reaching.{whatever, reached_here, reached_in_hand, ran_turns}
use Rattle.dup_press.proofs.press.Press.expand_all.Goals as goal

pub bring-requires : goal.bring-requires
bring-requires g c =
    let now = c.loop-job.self in
    let v = begun_version now.works.work now.works.target in
    over_frame now.works.journal.site c.hand.new.self.works.journal.site now.works.journal.commits v c.in-Some.job.content
    (subst (λ (o : Option Job). IfSome o (λ j. j.content ≡ version now.works.journal.site now.works.journal.commits v)) c.in-Some.is c.in_ok-job.ensures.content)
    c.in_ok-job.ensures.place.site

pub loop-job-preserved : goal.loop-job-preserved
loop-job-preserved g c =
    let now = c.loop-job.self in
    expanding_more c.args.self.now c.args.meter.now now c.loop-job.meter c.loop-job.invariant c.hand.new.self c.bring.new.self c.in-Some.job.obj c.in-Some.job.content
    (subst (λ (o : Option Job). Hands (hand_step now.works.journal.site now.works.work now.works.target) now (option_map (λ j. j.obj) o) c.hand.new.self) c.in-Some.is c.in_ok-job.ensures.step)
    c.in_ok-job.ensures.place
    (subst (λ (o : Option Job). IfSome o (λ j. j.content ≡ version now.works.journal.site now.works.journal.commits (begun_version now.works.work now.works.target))) c.in-Some.is c.in_ok-job.ensures.content)
    c.in_ok-bring.ensures.put c.in_ok-bring.ensures.place c.bring.new.meter c.in_ok-bring.ensures.counted

pub loop-job-smaller : goal.loop-job-smaller
loop-job-smaller g c =
    let now = c.loop-job.self in
    expanding_less c.args.self.now c.args.meter.now now c.loop-job.meter c.loop-job.invariant c.hand.new.self c.bring.new.self c.in-Some.job.obj c.in-Some.job.content
    (subst (λ (o : Option Job). Hands (hand_step now.works.journal.site now.works.work now.works.target) now (option_map (λ j. j.obj) o) c.hand.new.self) c.in-Some.is c.in_ok-job.ensures.step)
    c.in_ok-job.ensures.place
    (subst (λ (o : Option Job). IfSome o (λ j. j.content ≡ version now.works.journal.site now.works.journal.commits (begun_version now.works.work now.works.target))) c.in-Some.is c.in_ok-job.ensures.content)
    c.in_ok-bring.ensures.put c.in_ok-bring.ensures.place

pub returns-clause-calm : goal.returns-clause-calm
returns-clause-calm g c =
    let now = c.loop-job.self in
    expanding_calm c.args.self.now c.args.meter.now now c.loop-job.meter c.loop-job.invariant c.hand.new.self
    (subst (λ (o : Option Job). Hands (hand_step now.works.journal.site now.works.work now.works.target) now (option_map (λ j. j.obj) o) c.hand.new.self) (no_some c.in_ok-job.field-0 c.in_default.not-Some) c.in_ok-job.ensures.step)
    c.in_ok-job.ensures.place

pub returns-clause-handed : goal.returns-clause-handed
returns-clause-handed g c =
    let now = c.loop-job.self in
    expanding_ends c.args.self.now c.args.meter.now now c.loop-job.meter c.loop-job.invariant c.hand.new.self
    (subst (λ (o : Option Job). Hands (hand_step now.works.journal.site now.works.work now.works.target) now (option_map (λ j. j.obj) o) c.hand.new.self) (no_some c.in_ok-job.field-0 c.in_default.not-Some) c.in_ok-job.ensures.step)
    c.in_ok-job.ensures.place

pub returns-in_err-job-clause-err : goal.returns-in_err-job-clause-err
returns-in_err-job-clause-err g c =
    let now = c.loop-job.self in
    let is = c.loop-job.invariant in
    whatever c.from_residual.result (reached_here c.args.self.now now c.hand.new.self
    (ran_turns c.args.self.now.works.journal.site is.count (pressed c.args.self.now) (pressed now) is.turns) c.in_err-job.ensures.err)

pub returns-in_err-bring-clause-err : goal.returns-in_err-bring-clause-err
returns-in_err-bring-clause-err g c =
    let now = c.loop-job.self in
    let is = c.loop-job.invariant in
    whatever c.from_residual-in_err-bring.result (subst (IsReached c.args.self.now) (sym c.in_err-bring.ensures.err)
    (reached_in_hand c.args.self.now now c.hand.new.self
    (ran_turns c.args.self.now.works.journal.site is.count (pressed c.args.self.now) (pressed now) is.turns)
    is.working.work is.working.busy c.in-Some.job.obj
    (subst (λ (s : Parts). hand_step s now.works.work now.works.target (pressed now) ≡ (Some c.in-Some.job.obj, pressed c.hand.new.self)) is.place.site
    (subst (λ (o : Option Job). Hands (hand_step now.works.journal.site now.works.work now.works.target) now (option_map (λ j. j.obj) o) c.hand.new.self) c.in-Some.is c.in_ok-job.ensures.step))))
