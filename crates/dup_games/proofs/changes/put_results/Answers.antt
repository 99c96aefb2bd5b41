use Rattle.std.proofs.Common.{◌≡◌, arith}
use Rattle.dup_games.specs.Games.{result, behind_comma, each_to}
use Rattle.dup_games.proofs.Appending.{committed, turns_done}
use Rattle.dup_games.proofs.changes.put_results.Goals as goal

pub returns : goal.returns
returns c =
    let done : c.loop-before.before ≡ 8 = omega arith in
    committed c.args.out.now.items (each_to (behind_comma (result c.args.event)) 8) c.in_ok-put.ensures
    (turns_done (behind_comma (result c.args.event)) c.put.new.out.items done c.loop-before.invariant)
    c.in_ok-put-2.ensures
