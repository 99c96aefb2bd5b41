use Rattle.std.proofs.Common.{◌≡◌, drop, map}
use Rattle.std.specs.List.{fold}
use Rattle.dup_cache.specs.Entries.{without}
use Rattle.dup_cache.specs.Kept.{IsKeyed, pages_of}
use Rattle.dup_cache.proofs.catching.remove_puts.Given as goal

abbrev pub invariant-loop-page : goal.invariant-loop-page
invariant-loop-page l =
    (fold without (pages_of l.entries.entries) (map (λ p. p.value.path) (drop l.page-index l.puts)) ≡ fold without (pages_of l.fn.entries.entries) (map (λ p. p.value.path) l.puts))
    × IsKeyed l.entries.entries
    × (l.entries.cap ≡ l.fn.entries.cap)
