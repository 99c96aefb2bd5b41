use Rattle.std.proofs.Common.{◌≡◌, drop, map}
use Rattle.dup_cache.specs.Kept.{IsKeyed, pages_of}
use Rattle.dup_cache.specs.Renewing.{unnamed}
use Rattle.dup_cache.proofs.catching.remove_named.Given as goal

abbrev pub invariant-loop-bundle : goal.invariant-loop-bundle
invariant-loop-bundle l =
    (unnamed (pages_of l.entries.entries) (map (λ r. r.value) (drop l.bundle-index l.bundles)) ≡ unnamed (pages_of l.fn.entries.entries) (map (λ r. r.value) l.bundles))
    × IsKeyed l.entries.entries
    × (l.entries.cap ≡ l.fn.entries.cap)
