use Rattle.std.proofs.Common.{◌≡◌, arith}
use Rattle.dup_games.specs.Games.{athlete, behind_comma, each_to}
use Rattle.dup_games.proofs.Appending.{committed, turns_done}
use Rattle.dup_games.proofs.changes.put_athletes.Goals as goal

pub returns : goal.returns
returns c =
    let done : c.loop-before.before ≡ 8 = omega arith in
    committed c.args.out.now.items (each_to (behind_comma athlete) 8) c.in_ok-put.ensures
    (turns_done (behind_comma athlete) c.put.new.out.items done c.loop-before.invariant)
    c.in_ok-put-2.ensures
