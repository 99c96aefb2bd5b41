use Rattle.std.proofs.Common.{◌≡◌, [], true, ◌⊎◌}
use Rattle.dup_names.specs.Words.{Path}
use Rattle.dup_model.specs.Editions.{has}
use Rattle.dup_bundle.specs.Hinted.{IsNoted}
use Rattle.dup_bundle.proofs.hints.Hints.whole.Given as goal

abbrev pub invariant-loop-path : goal.invariant-loop-path
invariant-loop-path l =
    (goal.iterator-loop-path).can_next l.path-iterator
    × (goal.iterator-loop-path).is_finite l.path-iterator
    × ((q : Path) → has l.changed q ≡ true → (has l.path-iterator q ≡ true) ⊎ IsNoted l.hints l.edition l.target [] q)
