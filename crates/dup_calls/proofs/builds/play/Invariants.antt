use Rattle.std.proofs.Common.{◌≡◌}
use Rattle.dup_calls.proofs.builds.play.Given as goal

abbrev pub invariant-loop-step : goal.invariant-loop-step
invariant-loop-step g l = l.works.build.works.content ≡ l.works.content
