use Rattle.std.proofs.Common.{subst}
use Rattle.dup_build.specs.Answers.{joined_told}
use Rattle.dup_build.specs.declared.answers.Joined.{Joined}
use Rattle.dup_machine.specs.Presses.{join_step}
use Rattle.dup_machine.specs.World as machine
use Rattle.dup_press.specs.Pressed.{Tells, pressed}
use Rattle.dup_press.proofs.Looping.{joining_done, joining_ends, joining_less, joining_more, joining_place, not_level}
use Rattle.dup_press.proofs.Reaching.{whatever, ran_joins, reached_here}
use Rattle.dup_press.proofs.press.Press.join_all.Goals as goal

pub loop-preserved : goal.loop-preserved
loop-preserved g c =
    let now = c.loop.self in
    joining_more c.args.self.now now c.join.new.self c.loop.invariant c.in_ok-join.ensures.place c.in-Level.field-0
    (subst (λ (j : Joined). Tells (join_step now.works.journal.site now.works.work now.works.target) now (machine.Told.Joins (joined_told j)) c.join.new.self) c.in-Level.is c.in_ok-join.ensures.step)

pub loop-smaller : goal.loop-smaller
loop-smaller g c =
    let now = c.loop.self in
    joining_less c.args.self.now now c.join.new.self c.loop.invariant c.in_ok-join.ensures.place c.in-Level.field-0
    (subst (λ (j : Joined). Tells (join_step now.works.journal.site now.works.work now.works.target) now (machine.Told.Joins (joined_told j)) c.join.new.self) c.in-Level.is c.in_ok-join.ensures.step)

pub returns : goal.returns
returns g c =
    let first = c.args.self.now in
    let now = c.loop.self in
    let next = c.join.new.self in
    let other = not_level c.in_ok-join.field-0 c.in_default.not-Level in
    record {
      joined = joining_ends first now next c.loop.invariant c.in_ok-join.ensures.place (joined_told c.in_ok-join.field-0) c.in_ok-join.ensures.step other;
      all = joining_done first now next c.loop.invariant c.in_ok-join.ensures.place (joined_told c.in_ok-join.field-0) c.in_ok-join.ensures.step other;
      place = joining_place first now next c.loop.invariant c.in_ok-join.ensures.place (joined_told c.in_ok-join.field-0) c.in_ok-join.ensures.step other;
      err = tt;
    }

pub returns-in_err-join-clause-err : goal.returns-in_err-join-clause-err
returns-in_err-join-clause-err g c =
    let now = c.loop.self in
    let is = c.loop.invariant in
    whatever c.from_residual.result (reached_here c.args.self.now now c.join.new.self
    (ran_joins c.args.self.now.works.journal.site (machine.Told.Joins machine.Joined.Done) is.count (pressed c.args.self.now) (pressed now) is.repeats) c.in_err-join.ensures.err)
