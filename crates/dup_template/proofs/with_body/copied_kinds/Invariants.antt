use Rattle.std.proofs.Common.{◌≡◌, ◌++◌, drop}
use Rattle.dup_template.proofs.with_body.copied_kinds.Given as goal

abbrev pub invariant-loop-kind : goal.invariant-loop-kind
invariant-loop-kind l = l.made.items ++ drop l.kind-index l.kinds ≡ l.kinds
