use Rattle.std.proofs.Common.{subst}
use Rattle.dup_machine.specs.Presses.{publish_step}
use Rattle.dup_machine.specs.World.Told.{NothingChanged}
use Rattle.dup_press.specs.Pressed.{Tells, pressed}
use Rattle.dup_press.specs.Told.{published_told}
use Rattle.dup_press.proofs.Looping.{publishing_less, publishing_more}
use Rattle.dup_press.proofs.Reaching.{whatever, ran_publishes, reached_here}
use Rattle.dup_press.proofs.press.Press.publish_all.Goals as goal

pub loop-preserved-in-Bundle : goal.loop-preserved-in-Bundle
loop-preserved-in-Bundle g c =
    let now = c.loop.self in
    publishing_more c.args.self.now now c.publish.new.self c.loop.invariant c.in_ok-publish.ensures.place c.in-Bundle.number c.in-Bundle.version c.in-Bundle.puts c.in-Bundle.drops
    (subst (λ told. Tells (publish_step now.works.journal.site now.works.target) now (published_told told) c.publish.new.self) c.in-Bundle.is c.in_ok-publish.ensures.step)

pub loop-smaller-in-Bundle : goal.loop-smaller-in-Bundle
loop-smaller-in-Bundle g c =
    let now = c.loop.self in
    publishing_less c.args.self.now now c.publish.new.self c.loop.invariant c.in_ok-publish.ensures.place c.in-Bundle.number c.in-Bundle.version c.in-Bundle.puts c.in-Bundle.drops
    (subst (λ told. Tells (publish_step now.works.journal.site now.works.target) now (published_told told) c.publish.new.self) c.in-Bundle.is c.in_ok-publish.ensures.step)

pub returns-in_err-publish-clause-err : goal.returns-in_err-publish-clause-err
returns-in_err-publish-clause-err g c =
    let now = c.loop.self in
    let is = c.loop.invariant in
    whatever c.from_residual.result (reached_here c.args.self.now now c.publish.new.self
    (ran_publishes c.args.self.now.works.journal.site NothingChanged is.count (pressed c.args.self.now) (pressed now) is.repeats) c.in_err-publish.ensures.err)
