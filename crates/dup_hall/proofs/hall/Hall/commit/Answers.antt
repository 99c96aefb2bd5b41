use Rattle.std.proofs.Common.{refl, rules}
use Rattle.std.specs.Prelude.{Some}
use Rattle.std.proofs.lemmas.Result.{on_ok_weaker}
use Rattle.dup_script.specs.declared.said.Said.TheVariants as said
use Rattle.dup_transcript.specs.declared.command.Command.TheVariants as command
use Rattle.dup_hall.proofs.Acting.{accepted_acts, accepted_sound, refused_acts, refused_sound, with_press}
use Rattle.dup_hall.proofs.Reaching.{same_reaches, turn_reaches}
use Rattle.dup_press.proofs.Reaching.{whatever}
use Rattle.dup_script.proofs.RefusedTexts.{named_text}
use Rattle.dup_hall.proofs.hall.Hall.commit.Goals as goal

pub returns-in-Ok-clause-sound : goal.returns-in-Ok-clause-sound
returns-in-Ok-clause-sound c = accepted_sound c.args.self.now c.commit.new.self c.args.commit c.in-Ok.version c.requires c.in-Ok.ensures.step

pub returns-in-Ok-clause-answers : goal.returns-in-Ok-clause-answers
returns-in-Ok-clause-answers c =
    on_ok_weaker c.said_text.result
    (λ text. (
      Some (said.Committed c.in-Ok.version),
      text,
      accepted_acts c.args.self.now c.commit.new.self c.args.commit c.in-Ok.version _ c.in-Ok.ensures.step refl,
      refl,
    ))
    c.said_text.ensures.ok

pub returns-in-Err-clause-sound : goal.returns-in-Err-clause-sound
returns-in-Err-clause-sound c = refused_sound c.args.self.now c.commit.new.self c.requires c.in-Err.ensures.err

pub returns-in-Err-clause-answers : goal.returns-in-Err-clause-answers
returns-in-Err-clause-answers c =
    on_ok_weaker c.said_text-in-Err.result
    (λ text. (
      Some (said.Refused c.in-Err.why),
      text,
      refused_acts c.args.self.now c.commit.new.self c.args.commit c.in-Err.why _ c.in-Err.ensures.err c.in-Err.ensures.refused (search rules)
          (λ due names. named_text c.in-Err.why due (search rules) names),
      refl,
    ))
    c.said_text-in-Err.ensures.ok

pub returns-in-Ok-clause-err : goal.returns-in-Ok-clause-err
returns-in-Ok-clause-err c =
    whatever c.said_text.result (turn_reaches c.args.self.now (with_press c.args.self.now c.commit.new.self) 0 (command.Commit c.args.commit) _
    (accepted_acts c.args.self.now c.commit.new.self c.args.commit c.in-Ok.version _ c.in-Ok.ensures.step refl))

pub returns-in-Err-clause-err : goal.returns-in-Err-clause-err
returns-in-Err-clause-err c =
    whatever c.said_text-in-Err.result (same_reaches c.args.self.now (with_press c.args.self.now c.commit.new.self) c.in-Err.ensures.err (λ n. refl))
