use Rattle.std.proofs.Common.{refl}
use Rattle.std.specs.Prelude.{Some}
use Rattle.dup_script.specs.Answers.{said_text}
use Rattle.dup_transcript.specs.declared.command.Command.TheVariants as command
use Rattle.dup_hall.proofs.Acting.{nodes_act, nodes_sound, with_nodes}
use Rattle.dup_hall.proofs.Reaching.{turn_reaches}
use Rattle.dup_press.proofs.Reaching.{whatever}
use Rattle.dup_hall.proofs.hall.Hall.evict.Goals as goal

pub returns-clause-sound : goal.returns-clause-sound
returns-clause-sound c =
    let log = c.args.self.now.press.log in
    nodes_sound c.args.self.now c.evict-said.new.nodes log refl (c.evict-said.ensures.holds log c.requires)

pub returns-clause-answers : goal.returns-clause-answers
returns-clause-answers c =
    let log = c.args.self.now.press.log in
    let asked = command.Evict c.args.number c.args.path.now in (
      Some c.evict-said.result,
      c.in_ok-said_text.ensures.ok,
      nodes_act c.args.self.now c.evict-said.new.nodes asked (said_text c.evict-said.result) log refl (c.evict-said.ensures.turns log),
      refl,
    )

pub returns-in_err-said_text-clause-err : goal.returns-in_err-said_text-clause-err
returns-in_err-said_text-clause-err c =
    let log = c.args.self.now.press.log in
    let asked = command.Evict c.args.number c.args.path.now in
    whatever c.from_residual.result (turn_reaches c.args.self.now (with_nodes c.args.self.now c.evict-said.new.nodes) 0 asked _
    (nodes_act c.args.self.now c.evict-said.new.nodes asked (said_text c.evict-said.result) log refl (c.evict-said.ensures.turns log)))

pub returns-in_err-said_text-clause-sound : goal.returns-in_err-said_text-clause-sound
returns-in_err-said_text-clause-sound c =
    let log = c.args.self.now.press.log in
    nodes_sound c.args.self.now c.evict-said.new.nodes log refl (c.evict-said.ensures.holds log c.requires)
