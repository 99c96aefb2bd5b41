use Rattle.std.proofs.Common.{refl, subst, sym}
use Rattle.std.specs.Prelude.{Some}
use Rattle.dup_script.specs.Answers.{said_text}
use Rattle.dup_transcript.specs.declared.command.Command.TheVariants as command
use Rattle.dup_hall.specs.Serving.{AllHold}
use Rattle.dup_hall.proofs.Acting.{nodes_act, nodes_sound, with_nodes}
use Rattle.dup_hall.proofs.Reaching.{nodes_reach, turn_reaches}
use Rattle.dup_press.proofs.Reaching.{whatever}
use Rattle.dup_hall.proofs.hall.Hall.get.Goals as goal

pub get-requires : goal.get-requires
get-requires c = subst (AllHold c.args.self.now.nodes) (sym c.outlet.ensures.log) c.requires

pub returns-clause-sound : goal.returns-clause-sound
returns-clause-sound c = nodes_sound c.args.self.now c.get.new.nodes c.outlet.result.now.log c.outlet.ensures.log c.get.ensures.holds

pub returns-clause-answers : goal.returns-clause-answers
returns-clause-answers c = (
  Some c.in_ok-said.said,
  c.in_ok-said_text.ensures.ok,
  nodes_act c.args.self.now c.get.new.nodes (command.Get c.args.number c.args.pass c.args.path.now) (said_text c.in_ok-said.said) c.outlet.result.now.log c.outlet.ensures.log c.in_ok-said.ensures.turns,
  c.get-2.ensures,
)

pub returns-in_err-said-clause-err : goal.returns-in_err-said-clause-err
returns-in_err-said-clause-err c =
    whatever c.from_residual.result (nodes_reach c.args.self.now c.get.new.nodes (command.Get c.args.number c.args.pass c.args.path.now) c.outlet.result.now.log c.outlet.ensures.log c.in_err-said.ensures.err)

pub returns-in_err-said_text-clause-err : goal.returns-in_err-said_text-clause-err
returns-in_err-said_text-clause-err c =
    whatever c.from_residual-in_err-said_text.result (turn_reaches c.args.self.now (with_nodes c.args.self.now c.get.new.nodes) 0 (command.Get c.args.number c.args.pass c.args.path.now) _
    (nodes_act c.args.self.now c.get.new.nodes (command.Get c.args.number c.args.pass c.args.path.now) (said_text c.in_ok-said.said) c.outlet.result.now.log c.outlet.ensures.log c.in_ok-said.ensures.turns))
