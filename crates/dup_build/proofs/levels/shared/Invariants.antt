use Rattle.std.proofs.Common.{◌≡◌, ◌++◌, map}
use Rattle.dup_build.proofs.levels.shared.Given as goal

abbrev pub invariant-loop-look : goal.invariant-loop-look
invariant-loop-look l = map (λ s. s.value) l.made.items ++ l.look-iterator.rest.items ≡ l.initial.look-iterator.rest.items
