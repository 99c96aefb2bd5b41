use Rattle.std.proofs.Common.{◌≡◌, ◌++◌}
use Rattle.dup_games.specs.Games.{each_to, day_of_event}
use Rattle.dup_games.proofs.script.put_days.Given as goal

abbrev pub invariant-loop-before : goal.invariant-loop-before
invariant-loop-before l = l.out.items ≡ l.initial.out.items ++ each_to day_of_event l.before
