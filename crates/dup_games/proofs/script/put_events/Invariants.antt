use Rattle.std.proofs.Common.{◌≡◌, ◌++◌}
use Rattle.dup_games.specs.Games.{each_to, new_event}
use Rattle.dup_games.proofs.script.put_events.Given as goal

abbrev pub invariant-loop-before : goal.invariant-loop-before
invariant-loop-before l = l.out.items ≡ l.initial.out.items ++ each_to new_event l.before
