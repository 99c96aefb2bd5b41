use Rattle.std.proofs.Common.{◌≡◌, ◌++◌}
use Rattle.dup_games.specs.Games.{each_to, behind_comma, result}
use Rattle.dup_games.proofs.changes.put_results.Given as goal

abbrev pub invariant-loop-before : goal.invariant-loop-before
invariant-loop-before l = l.out.items ≡ l.initial.out.items ++ each_to (behind_comma (result l.event)) l.before
