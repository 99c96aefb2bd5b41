use Rattle.std.proofs.Common.{ap, ◌∙◌}
use Rattle.dup_cache.specs.Entries.{touched}
use Rattle.dup_cache.specs.Kept.{pages_of}
use Rattle.dup_cache.proofs.Touching.{seen_touched}
use Rattle.dup_cache.proofs.cache.PageCache.touch.Goals as goal

pub returns-clause-entries : goal.returns-clause-entries
returns-clause-entries c =
    seen_touched c.args.path.now c.self.inside.entries.cap c.self.inside.edition c.self.inside.mode (pages_of c.self.inside.entries.entries)
    c.promote.new.entries.cap (pages_of c.promote.new.entries.entries) c.promote.ensures.cap c.promote.ensures.pages
    ∙ ap (touched c.args.path.now) c.self.view_is
