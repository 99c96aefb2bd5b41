use Rattle.std.proofs.Common.{◌≡◌, ◌++◌, drop, map}
use Rattle.std.specs.List.{flat_map}
use Rattle.dup_model.specs.Editions.{edition}
use Rattle.dup_cache.specs.Kept.{pages_of}
use Rattle.dup_cache.specs.Renewing.{due, named, seen}
use Rattle.dup_cache.proofs.catching.due_named.Given as goal

abbrev pub invariant-loop-bundle : goal.invariant-loop-bundle
invariant-loop-bundle l =
    seen l.made.items ++ due (edition l.edition.log) (pages_of l.entries.entries) (flat_map named (map (λ r. r.value) (drop l.bundle-index l.bundles)))
    ≡ due (edition l.edition.log) (pages_of l.entries.entries) (flat_map named (map (λ r. r.value) l.bundles))
