use Rattle.std.proofs.Common.{refl}
use Rattle.std.specs.Prelude.{Some}
use Rattle.dup_script.specs.Answers.{said_text}
use Rattle.dup_transcript.specs.declared.command.Command.TheVariants as command
use Rattle.dup_hall.proofs.Acting.{nodes_act, nodes_sound, with_nodes}
use Rattle.dup_hall.proofs.Reaching.{same_reaches, turn_reaches}
use Rattle.dup_press.proofs.Reaching.{whatever}
use Rattle.dup_hall.proofs.hall.Hall.add_node.Goals as goal

pub returns-clause-sound : goal.returns-clause-sound
returns-clause-sound c =
    let log = c.args.self.now.press.log in
    nodes_sound c.args.self.now c.add_node.new.nodes log refl (c.in_ok-said.ensures.holds log c.requires.sound)

pub returns-clause-answers : goal.returns-clause-answers
returns-clause-answers c =
    let log = c.args.self.now.press.log in
    let asked = command.Node c.args.number c.args.capacity c.args.mode in (
      Some c.in_ok-said.said,
      c.in_ok-said_text.ensures.ok,
      nodes_act c.args.self.now c.add_node.new.nodes asked (said_text c.in_ok-said.said) log refl (c.in_ok-said.ensures.turns log),
      refl,
    )

pub returns-in_err-said-clause-err : goal.returns-in_err-said-clause-err
returns-in_err-said-clause-err c = whatever c.from_residual.result (same_reaches c.args.self.now (with_nodes c.args.self.now c.add_node.new.nodes) refl c.in_err-said.ensures.err)

pub returns-in_err-said_text-clause-err : goal.returns-in_err-said_text-clause-err
returns-in_err-said_text-clause-err c =
    let log = c.args.self.now.press.log in
    let asked = command.Node c.args.number c.args.capacity c.args.mode in
    whatever c.from_residual-in_err-said_text.result (turn_reaches c.args.self.now (with_nodes c.args.self.now c.add_node.new.nodes) 0 asked _
    (nodes_act c.args.self.now c.add_node.new.nodes asked (said_text c.in_ok-said.said) log refl (c.in_ok-said.ensures.turns log)))
