use Rattle.std.proofs.Common.{◌≡◌}
use Rattle.std.specs.List.{fold}
use Rattle.std.specs.Vec.Iter.{into_iter_items}
use Rattle.dup_cache.specs.Kept.{IsKeyed, pages_of}
use Rattle.dup_cache.specs.Renewing.{ArePlaced, renewed, seen}
use Rattle.dup_cache.proofs.entries.renew.Given as goal

abbrev pub invariant-loop-renewal : goal.invariant-loop-renewal
invariant-loop-renewal l =
    (goal.iterator-loop-renewal).can_next l.renewal-iterator
    × (goal.iterator-loop-renewal).is_finite l.renewal-iterator
    × (fold renewed (pages_of l.entries.entries) (seen (into_iter_items l.renewal-iterator)) ≡ fold renewed (pages_of l.fn.entries.entries) (seen l.fn.renewals.items))
    × ArePlaced (seen (into_iter_items l.renewal-iterator))
    × IsKeyed l.entries.entries
    × (l.entries.cap ≡ l.fn.entries.cap)
