use Rattle.std.proofs.Common.{◌≡◌}
use Rattle.dup_calls.proofs.builds.expand_all.Given as goal

abbrev pub invariant-loop-turn : goal.invariant-loop-turn
invariant-loop-turn l = l.build.works.content ≡ l.initial.build.works.content
