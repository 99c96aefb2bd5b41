use Rattle.dup_cache.specs.Holding.{BeginsWith}
use Rattle.dup_calls.proofs.nodes.titles.Given as goal

abbrev pub invariant-loop-number : goal.invariant-loop-number
invariant-loop-number g l = BeginsWith l.press.log l.initial.press.log
