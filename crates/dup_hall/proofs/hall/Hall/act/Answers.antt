use Rattle.std.proofs.Common.{refl, subst}
use Rattle.std.specs.Prelude.{Some}
use Rattle.std.proofs.lemmas.Result.{on_ok_weaker}
use Rattle.dup_script.specs.declared.said.Said.TheVariants as said
use Rattle.dup_transcript.proofs.MachineTurns.{turns_bad, turns_bad_feed, turns_not_built}
use Rattle.dup_hall.specs.Kept.{limits_of, site_of, standing}
use Rattle.dup_script.specs.Commands.{HasRoom}
use Rattle.dup_hall.proofs.Reaching.{stays}
use Rattle.dup_press.proofs.Reaching.{whatever}
use Rattle.dup_hall.proofs.hall.Hall.act.Goals as goal

pub add_node-requires : goal.add_node-requires
add_node-requires g c = record { sound = c.requires.sound; room = subst HasRoom c.in-Node.is c.requires.room }

pub returns-in-BadFeed-clause-err : goal.returns-in-BadFeed-clause-err
returns-in-BadFeed-clause-err g c = whatever c.bad_feed.result (stays c.args.self.now)

pub returns-in-Status-clause-err : goal.returns-in-Status-clause-err
returns-in-Status-clause-err g c = whatever c.status.result (stays c.args.self.now)

pub returns-in-NotBuilt-clause-err : goal.returns-in-NotBuilt-clause-err
returns-in-NotBuilt-clause-err g c = whatever c.said_text.result (stays c.args.self.now)

pub returns-in-Bad-clause-err : goal.returns-in-Bad-clause-err
returns-in-Bad-clause-err g c = whatever c.said_text-in-Bad.result (stays c.args.self.now)

pub returns-in-BadFeed-clause-answers : goal.returns-in-BadFeed-clause-answers
returns-in-BadFeed-clause-answers g c =
    let s = c.args.self.now in
    rw c.in-BadFeed.is
    (on_ok_weaker c.bad_feed.result (λ text. (Some (said.BadFeed c.in-BadFeed.why), text, turns_bad_feed (site_of s) (limits_of s) (standing s) c.args.number c.in-BadFeed.why, refl)) c.bad_feed.ensures)

pub returns-in-NotBuilt-clause-answers : goal.returns-in-NotBuilt-clause-answers
returns-in-NotBuilt-clause-answers g c =
    let s = c.args.self.now in
    rw c.in-NotBuilt.is
    (on_ok_weaker c.said_text.result (λ text. (Some (said.NotBuilt c.args.number), text, turns_not_built (site_of s) (limits_of s) (standing s) c.args.number, refl)) c.said_text.ensures.ok)

pub returns-in-Bad-clause-answers : goal.returns-in-Bad-clause-answers
returns-in-Bad-clause-answers g c =
    let s = c.args.self.now in
    rw c.in-Bad.is
    (on_ok_weaker c.said_text-in-Bad.result (λ text. (Some (said.BadLine c.args.number), text, turns_bad (site_of s) (limits_of s) (standing s) c.args.number, refl)) c.said_text-in-Bad.ensures.ok)
