use Rattle.std.proofs.Common.{refl, subst, sym}
use Rattle.std.specs.Prelude.{Some}
use Rattle.dup_script.specs.Answers.{said_text}
use Rattle.dup_transcript.specs.declared.command.Command.TheVariants as command
use Rattle.dup_hall.specs.Serving.{AllHold}
use Rattle.dup_hall.proofs.Acting.{nodes_act, nodes_sound, with_nodes}
use Rattle.dup_hall.proofs.Reaching.{same_reaches, turn_reaches}
use Rattle.dup_press.proofs.Reaching.{whatever}
use Rattle.dup_hall.proofs.hall.Hall.deliver.Goals as goal

pub deliver-requires : goal.deliver-requires
deliver-requires c = subst (AllHold c.args.self.now.nodes) (sym c.outlet.ensures.log) c.requires

pub returns-clause-sound : goal.returns-clause-sound
returns-clause-sound c = nodes_sound c.args.self.now c.deliver.new.nodes c.outlet.result.now.log c.outlet.ensures.log c.deliver.ensures.holds

pub returns-clause-answers : goal.returns-clause-answers
returns-clause-answers c = (
  Some c.in_ok-said.said,
  c.in_ok-said_text.ensures.ok,
  nodes_act c.args.self.now c.deliver.new.nodes (command.Deliver c.args.number) (said_text c.in_ok-said.said) c.outlet.result.now.log c.outlet.ensures.log c.in_ok-said.ensures.turns,
  refl,
)

pub returns-in_err-said-clause-err : goal.returns-in_err-said-clause-err
returns-in_err-said-clause-err c = whatever c.from_residual.result (same_reaches c.args.self.now (with_nodes c.args.self.now c.deliver.new.nodes) refl c.in_err-said.ensures.err)

pub returns-in_err-said_text-clause-err : goal.returns-in_err-said_text-clause-err
returns-in_err-said_text-clause-err c =
    whatever c.from_residual-in_err-said_text.result (turn_reaches c.args.self.now (with_nodes c.args.self.now c.deliver.new.nodes) 0 (command.Deliver c.args.number) _
    (nodes_act c.args.self.now c.deliver.new.nodes (command.Deliver c.args.number) (said_text c.in_ok-said.said) c.outlet.result.now.log c.outlet.ensures.log c.in_ok-said.ensures.turns))
