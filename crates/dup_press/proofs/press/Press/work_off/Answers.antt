use Rattle.std.proofs.Common.{◌≡◌, ◌-◌, List, length, sym, ap, subst, ◌∙◌}
use Rattle.dup_template.specs.declared.site.Parts.{Parts}
use Rattle.dup_model.specs.Editions.{Bundle}
use Rattle.dup_build.specs.Answers.{finish_told}
use Rattle.dup_build.specs.declared.answers.Finish.{Finish}
use Rattle.dup_machine.specs.Presses.{Press, finish_step}
use Rattle.dup_machine.specs.World.{Counts, Told}
use Rattle.dup_machine.specs.World.Ended.{Report}
use Rattle.dup_machine.specs.World.Joined.{Done}
use Rattle.dup_machine.specs.World.Told.{Finished, Joins, NothingChanged}
use Rattle.dup_press.specs.Pressed.{IsSamePlace, Tells, pressed}
use Rattle.dup_press.specs.Turns.{IsJoined, UntilTold, join_on, publish_on}
use Rattle.dup_press.proofs.Looping.{same_twice, told_report, worked_log}
use Rattle.dup_press.proofs.Settling.{finish_reports}
use Rattle.dup_press.proofs.Reaching.{whatever, Ran, ran_finish, ran_joins, ran_turns, ran_twice, reached_here, reached_onward}
use Rattle.dup_press.proofs.press.Press.work_off.Goals as goal

pub unreachable-requires : goal.unreachable-requires
unreachable-requires g c =
    let q = pressed c.join_all.new.self in
    let site = c.expand_all.new.self.works.journal.site in
    let all : IsJoined site q = c.in_ok-join_all.ensures.all in
    let reports = finish_reports site q all.work all.busy all.calm all.joined in
    let told : finish_step site q.work q.target q ≡ (Finished (finish_told c.in_ok-version.field-0), pressed c.finish.new.self) =
    subst (λ (s : Parts). finish_step s q.work q.target q ≡ (Finished (finish_told c.in_ok-version.field-0), pressed c.finish.new.self)) c.in_ok-join_all.ensures.place.site c.in_ok-version.ensures.step in
    let same : Finished (finish_told c.in_ok-version.field-0) ≡ Finished (Report reports.0) = ap (λ (r : Told × Press). r.0) (sym told ∙ reports.1) in
    told_report c.in_ok-version.field-0 reports.0 (cc) c.in_default.not-Report

pub returns-clause-worked : goal.returns-clause-worked
returns-clause-worked g c =
    let old = c.args.self.now in
    let one : IsSamePlace old c.expand_all.new.self = c.in_ok-expand_all.ensures.place in
    let two : IsSamePlace old c.join_all.new.self = same_twice old c.expand_all.new.self c.join_all.new.self one c.in_ok-join_all.ensures.place in
    let three : IsSamePlace old c.finish.new.self = same_twice old c.join_all.new.self c.finish.new.self two c.in_ok-version.ensures.place in
    let counts : Counts = record { version = c.in-Report.version; expanded = c.in-Report.expanded; joined = c.in-Report.joined; kept = c.in-Report.kept } in
    let joins : UntilTold (join_on old.works.journal.site) (Joins Done) (pressed c.expand_all.new.self) (pressed c.join_all.new.self) =
    subst (λ (s : Parts). UntilTold (join_on s) (Joins Done) (pressed c.expand_all.new.self) (pressed c.join_all.new.self)) one.site c.in_ok-join_all.ensures.joined in
    let finishes : finish_step old.works.journal.site c.join_all.new.self.works.work c.join_all.new.self.works.target (pressed c.join_all.new.self) ≡ (Finished (Report counts), pressed c.finish.new.self) =
    subst (λ (s : Parts). finish_step s c.join_all.new.self.works.work c.join_all.new.self.works.target (pressed c.join_all.new.self) ≡ (Finished (Report counts), pressed c.finish.new.self)) two.site
    (subst (λ (f : Finish). Tells (finish_step c.join_all.new.self.works.journal.site c.join_all.new.self.works.work c.join_all.new.self.works.target) c.join_all.new.self (Finished (finish_told f)) c.finish.new.self) c.in-Report.is c.in_ok-version.ensures.step) in
    let log_is : c.finish.new.self.log ≡ old.log =
    worked_log old.works.journal.site (pressed old) (pressed c.expand_all.new.self) (pressed c.join_all.new.self) (pressed c.finish.new.self) (Finished (Report counts)) c.in_ok-expand_all.ensures.handed.handed joins finishes in
    record {
      handed = pressed c.expand_all.new.self;
      joined = pressed c.join_all.new.self;
      finished = pressed c.finish.new.self;
      counts = counts;
      hands = c.in_ok-expand_all.ensures.handed.handed;
      joins = joins;
      finishes = finishes;
      publishes = subst (λ (s : Parts). UntilTold (publish_on s) NothingChanged (pressed c.finish.new.self) (pressed c.publish_all.new.self)) three.site c.in_ok-bundles.ensures.published;
      says = λ i. record {
        version = c.in-Report.version;
        edition = c.edition.ensures i;
        bundles = (c.in_ok-bundles.ensures.bundles ∙ ap (λ (l : List Bundle). length c.publish_all.new.self.log - length l) log_is) i;
        expanded = c.in-Report.expanded;
        joined = c.in-Report.joined;
        kept = c.in-Report.kept;
      };
      counted = c.in_ok-expand_all.ensures.handed.counted;
    }

pub returns-in_err-join_all-clause-err : goal.returns-in_err-join_all-clause-err
returns-in_err-join_all-clause-err g c =
    let old = c.args.self.now in
    let mid = c.expand_all.new.self in
    let hands = c.in_ok-expand_all.ensures.handed.handed in
    whatever c.from_residual-in_err-join_all.result (reached_onward old mid c.join_all.new.self
    (ran_turns old.works.journal.site hands.count (pressed old) (pressed mid) hands.turns)
    c.in_ok-expand_all.ensures.place c.in_err-join_all.ensures.err)

pub returns-in_err-version-clause-err : goal.returns-in_err-version-clause-err
returns-in_err-version-clause-err g c =
    let old = c.args.self.now in
    let mid = c.expand_all.new.self in
    let now = c.join_all.new.self in
    let hands = c.in_ok-expand_all.ensures.handed.handed in
    let joins : UntilTold (join_on old.works.journal.site) (Joins Done) (pressed mid) (pressed now) =
    subst (λ (s : Parts). UntilTold (join_on s) (Joins Done) (pressed mid) (pressed now)) c.in_ok-expand_all.ensures.place.site c.in_ok-join_all.ensures.joined in
    whatever c.from_residual-in_err-version.result (reached_here old now c.finish.new.self
    (ran_twice old.works.journal.site (pressed old) (pressed mid) (pressed now)
    (ran_turns old.works.journal.site hands.count (pressed old) (pressed mid) hands.turns)
    (ran_joins old.works.journal.site (Joins Done) joins.count (pressed mid) (pressed now) joins.repeats))
    c.in_err-version.ensures.err)

pub returns-in_err-bundles-clause-err : goal.returns-in_err-bundles-clause-err
returns-in_err-bundles-clause-err g c =
    let old = c.args.self.now in
    let mid = c.expand_all.new.self in
    let now = c.join_all.new.self in
    let done = c.finish.new.self in
    let hands = c.in_ok-expand_all.ensures.handed.handed in
    let joins : UntilTold (join_on old.works.journal.site) (Joins Done) (pressed mid) (pressed now) =
    subst (λ (s : Parts). UntilTold (join_on s) (Joins Done) (pressed mid) (pressed now)) c.in_ok-expand_all.ensures.place.site c.in_ok-join_all.ensures.joined in
    let two : IsSamePlace old now = same_twice old mid now c.in_ok-expand_all.ensures.place c.in_ok-join_all.ensures.place in
    let finishes : finish_step old.works.journal.site now.works.work now.works.target (pressed now) ≡ (Finished (finish_told c.in_ok-version.field-0), pressed done) =
    subst (λ (s : Parts). finish_step s now.works.work now.works.target (pressed now) ≡ (Finished (finish_told c.in_ok-version.field-0), pressed done)) two.site c.in_ok-version.ensures.step in
    whatever c.from_residual-in_err-bundles.result (reached_onward old done c.publish_all.new.self
    (ran_twice old.works.journal.site (pressed old) (pressed now) (pressed done)
    (ran_twice old.works.journal.site (pressed old) (pressed mid) (pressed now)
    (ran_turns old.works.journal.site hands.count (pressed old) (pressed mid) hands.turns)
    (ran_joins old.works.journal.site (Joins Done) joins.count (pressed mid) (pressed now) joins.repeats))
    (ran_finish old.works.journal.site (pressed now) (pressed done) (Finished (finish_told c.in_ok-version.field-0)) finishes))
    (same_twice old now done two c.in_ok-version.ensures.place) c.in_err-bundles.ensures.err)
