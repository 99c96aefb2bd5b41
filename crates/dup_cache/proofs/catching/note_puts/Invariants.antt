use Rattle.std.proofs.Common.{◌≡◌, ◌++◌, drop, map}
use Rattle.dup_model.specs.Editions.{edition}
use Rattle.dup_cache.specs.Kept.{pages_of}
use Rattle.dup_cache.specs.Renewing.{due, seen}
use Rattle.dup_cache.proofs.catching.note_puts.Given as goal

abbrev pub invariant-loop-page : goal.invariant-loop-page
invariant-loop-page l =
    seen l.all.items ++ due (edition l.edition.log) (pages_of l.entries.entries) (map (λ p. p.value.path) (drop l.page-index l.puts))
    ≡ seen l.fn.all.items ++ due (edition l.edition.log) (pages_of l.entries.entries) (map (λ p. p.value.path) l.puts)
