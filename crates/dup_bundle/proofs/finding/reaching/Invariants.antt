use Rattle.std.proofs.Common.{◌≡◌, ◌+◌, ◌-◌, ◌*◌, ◌&&◌, true, length}
use Rattle.dup_names.specs.Words.{Path}
use Rattle.dup_model.specs.Bundles.{reached}
use Rattle.dup_model.specs.Editions.{has}
use Rattle.dup_bundle.specs.Between.{is_needed}
use Rattle.dup_bundle.proofs.Paths.{IsInOrder}
use Rattle.dup_bundle.proofs.finding.reaching.Given as goal

abbrev pub invariant-loop-path : goal.invariant-loop-path
invariant-loop-path l =
    IsInOrder l.seen.keys
    × ((q : Path) → has l.seen.keys q ≡ true → (has l.changed q && reached (is_needed l.edition l.target) l.changed q l.to) ≡ true)
    × ((q : Path) → has l.due.items q ≡ true → (has l.changed q && reached (is_needed l.edition l.target) l.changed q l.to) ≡ true)

abbrev pub decreases-loop-path : goal.decreases-loop-path
decreases-loop-path l = 2 * (length l.changed - length l.seen.keys) + length l.due.items
