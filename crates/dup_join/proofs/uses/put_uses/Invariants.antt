use Rattle.std.proofs.Common.{◌≡◌, drop}
use Rattle.dup_join.specs.Uses.{with_uses}
use Rattle.dup_join.proofs.uses.put_uses.Given as goal

abbrev pub invariant-loop-one : goal.invariant-loop-one
invariant-loop-one l = with_uses l.made.entries (drop l.one-index l.more) ≡ with_uses l.initial.made.entries l.more
