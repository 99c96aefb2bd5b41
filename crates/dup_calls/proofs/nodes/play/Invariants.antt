use Rattle.std.specs.Prelude.{All}
use Rattle.dup_model.specs.Serving.{HoldsPagesOf}
use Rattle.dup_calls.proofs.nodes.play.Given as goal

abbrev pub invariant-loop-step : goal.invariant-loop-step
invariant-loop-step g l = All (HoldsPagesOf l.press.log) l.nodes.items
