use Rattle.std.proofs.Common.{◌++◌, ◌+◌, ap, drop, map, sym, ◌∙◌}
use Rattle.std.specs.List.{flat_map}
use Rattle.dup_model.specs.Editions.{edition}
use Rattle.dup_cache.specs.Kept.{pages_of}
use Rattle.dup_cache.specs.Renewing.{due, named, seen}
use Rattle.dup_cache.proofs.Noting.{named_noted, next_of}
use Rattle.dup_cache.proofs.catching.due_named.Goals as goal

pub loop-bundle-preserved : goal.loop-bundle-preserved
loop-bundle-preserved c =
    named_noted (edition c.args.edition.now.log) (pages_of c.args.entries.now.entries) (seen c.loop-bundle.made.items) (seen c.note_puts.new.all.items) (seen c.note_drops.new.all.items)
    c.puts.result.now c.drops.result.now c.bundle-item.result.value (map (λ r. r.value) (drop (c.loop-bundle.bundle-index + 1) c.args.bundles.now))
    c.in_ok-note_puts.ensures
    c.in_ok-note_drops.ensures
    (c.puts.ensures ∙ ap (λ b. b.puts) c.deref.ensures)
    (c.drops.ensures ∙ ap (λ b. b.drops) c.deref-in-loop-bundle.ensures)
    ∙ ap (λ l. seen c.loop-bundle.made.items ++ due (edition c.args.edition.now.log) (pages_of c.args.entries.now.entries) (flat_map named (map (λ r. r.value) l)))
    (sym (next_of c.args.bundles.now c.loop-bundle.bundle-index c.bundle-item.result c.loop-bundle-test.true c.bundle-item.is))
    ∙ c.loop-bundle.invariant
