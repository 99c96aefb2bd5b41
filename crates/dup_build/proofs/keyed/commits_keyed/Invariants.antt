use Rattle.std.proofs.Common.{drop, map}
use Rattle.std.specs.List.{AllByRecursion}
use Rattle.dup_model.specs.ChangedItems.{EditHasKey}
use Rattle.dup_build.proofs.keyed.commits_keyed.Given as goal

abbrev pub invariant-loop-commit : goal.invariant-loop-commit
invariant-loop-commit l = AllByRecursion (λ commit. AllByRecursion EditHasKey commit) (map (λ c. c.value) (drop l.commit-index l.commits)) → AllByRecursion (λ commit. AllByRecursion EditHasKey commit) (map (λ c. c.value) l.commits)
