use Rattle.std.proofs.Common.{◌≡◌, map, take}
use Rattle.dup_press.proofs.press.shared.Given as goal

abbrev pub invariant-loop-commit : goal.invariant-loop-commit
invariant-loop-commit l = map (λ c. c.value) l.made.items ≡ map (λ c. c.value) (take l.commit-index l.commits)
