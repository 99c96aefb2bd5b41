use Rattle.dup_games.specs.Games.{new_event}
use Rattle.dup_games.proofs.Appending.{one_more}
use Rattle.dup_games.proofs.script.put_events.Goals as goal

pub loop-before-preserved : goal.loop-before-preserved
loop-before-preserved c =
    one_more new_event c.loop-before.before c.args.out.now.items c.loop-before.invariant
    c.in_ok-put_new_event.ensures
