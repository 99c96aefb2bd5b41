use Rattle.std.proofs.Common.{◌≡◌, Some, cond}
use Rattle.dup_names.specs.Words.{Path}
use Rattle.dup_model.specs.Editions.{has}
use Rattle.dup_bundle.specs.Waiting.{level_of}
use Rattle.dup_bundle.proofs.levels.put_at_level.Given as goal

abbrev pub invariant-loop-path : goal.invariant-loop-path
invariant-loop-path l =
    (goal.iterator-loop-path).can_next l.path-iterator
    × (goal.iterator-loop-path).is_finite l.path-iterator
    × ((q : Path) → cond (has l.path-iterator q) (Some l.level) (level_of l.levels q) ≡ cond (has l.paths.keys q) (Some l.level) (level_of l.initial.levels q))
