use Rattle.std.proofs.Common.{drop}
use Rattle.std.specs.List.{AllByRecursion}
use Rattle.dup_model.specs.ChangedItems.{EditHasKey}
use Rattle.dup_build.proofs.keyed.commit_keyed.Given as goal

abbrev pub invariant-loop-change : goal.invariant-loop-change
invariant-loop-change l = AllByRecursion EditHasKey (drop l.change-index l.change-items) → AllByRecursion EditHasKey l.change-items
