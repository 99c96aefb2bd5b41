use Rattle.std.proofs.Common.{◌≡◌, drop}
use Rattle.std.specs.List.{fold}
use Rattle.dup_cache.specs.Entries.{without}
use Rattle.dup_cache.specs.Kept.{IsKeyed, pages_of}
use Rattle.dup_cache.proofs.catching.remove_drops.Given as goal

abbrev pub invariant-loop-path : goal.invariant-loop-path
invariant-loop-path l =
    (fold without (pages_of l.entries.entries) (drop l.path-index l.drops) ≡ fold without (pages_of l.fn.entries.entries) l.drops)
    × IsKeyed l.entries.entries
    × (l.entries.cap ≡ l.fn.entries.cap)
