use Rattle.std.proofs.Common.{◌≡◌, ◌++◌, drop}
use Rattle.dup_model.specs.Editions.{edition}
use Rattle.dup_cache.specs.Kept.{pages_of}
use Rattle.dup_cache.specs.Renewing.{due, seen}
use Rattle.dup_cache.proofs.catching.note_drops.Given as goal

abbrev pub invariant-loop-path : goal.invariant-loop-path
invariant-loop-path l =
    seen l.all.items ++ due (edition l.edition.log) (pages_of l.entries.entries) (drop l.path-index l.drops)
    ≡ seen l.fn.all.items ++ due (edition l.edition.log) (pages_of l.entries.entries) l.drops
