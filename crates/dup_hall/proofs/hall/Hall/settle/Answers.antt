use Rattle.std.proofs.Common.{refl, sym, ◌∙◌}
use Rattle.std.specs.Prelude.{Some}
use Rattle.dup_script.specs.declared.said.Said.TheVariants as said
use Rattle.dup_transcript.specs.declared.command.Command.TheVariants as command
use Rattle.dup_hall.proofs.Acting.{settle_acts, settled_sound, with_press}
use Rattle.dup_hall.proofs.Reaching.{settle_reaches, turn_reaches}
use Rattle.dup_press.proofs.Reaching.{whatever}
use Rattle.dup_hall.proofs.hall.Hall.settle.Goals as goal

pub returns-clause-sound : goal.returns-clause-sound
returns-clause-sound g c = settled_sound c.args.self.now c.settle.new.self c.in_ok-summary.summary c.requires c.in_ok-summary.ensures.settled

pub returns-clause-answers : goal.returns-clause-answers
returns-clause-answers g c = (
  Some c.settled.result,
  c.in_ok-said_text.ensures.ok,
  settle_acts c.args.self.now c.settle.new.self c.in_ok-summary.summary _ c.in_ok-summary.ensures.settled c.settled.ensures.text,
  c.settle-2.ensures ∙ sym (c.settled.ensures.counts c.args.self.now.tally),
)

pub returns-in_err-summary-clause-err : goal.returns-in_err-summary-clause-err
returns-in_err-summary-clause-err g c = whatever c.from_residual.result (settle_reaches c.args.self.now (with_press c.args.self.now c.settle.new.self) c.in_err-summary.ensures.err (λ n. refl))

pub returns-in_err-said_text-clause-err : goal.returns-in_err-said_text-clause-err
returns-in_err-said_text-clause-err g c =
    whatever c.from_residual-in_err-said_text.result (turn_reaches c.args.self.now (with_press c.args.self.now c.settle.new.self) 0 command.Settle _
    (settle_acts c.args.self.now c.settle.new.self c.in_ok-summary.summary _ c.in_ok-summary.ensures.settled c.settled.ensures.text))
