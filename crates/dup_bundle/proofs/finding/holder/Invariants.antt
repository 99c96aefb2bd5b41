use Rattle.std.proofs.Common.{◌≡◌, true, not}
use Rattle.std.specs.List.{find}
use Rattle.dup_names.specs.Words.{Path}
use Rattle.dup_model.specs.Bundles.{reached}
use Rattle.dup_model.specs.Editions.{has}
use Rattle.dup_bundle.specs.Between.{is_needed}
use Rattle.dup_bundle.proofs.finding.holder.Given as goal

abbrev pub invariant-loop-other : goal.invariant-loop-other
invariant-loop-other l =
    (goal.iterator-loop-other).can_next l.other-iterator
    × (goal.iterator-loop-other).is_finite l.other-iterator
    × (find (λ q. not (reached (is_needed l.edition l.target) l.changed q l.to)) l.other-iterator ≡ find (λ q. not (reached (is_needed l.edition l.target) l.changed q l.to)) l.paths.keys)
    × ((q : Path) → has l.other-iterator q ≡ true → has l.paths.keys q ≡ true)
