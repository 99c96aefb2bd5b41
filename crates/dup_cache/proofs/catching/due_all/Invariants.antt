use Rattle.std.proofs.Common.{◌≡◌, ◌++◌}
use Rattle.dup_model.specs.Editions.{edition}
use Rattle.dup_cache.specs.Kept.{pages_of}
use Rattle.dup_cache.specs.Renewing.{asked, paths_of, seen}
use Rattle.dup_cache.proofs.catching.due_all.Given as goal

abbrev pub invariant-loop-key : goal.invariant-loop-key
invariant-loop-key l =
    seen l.made.items ++ asked (edition l.edition.log) (paths_of (pages_of l._key-iterator))
    ≡ asked (edition l.edition.log) (paths_of (pages_of l.entries.entries))
