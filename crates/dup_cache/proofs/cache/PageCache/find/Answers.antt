use Rattle.std.proofs.Common.{◌≡◌, None, Some, ap, ◌∙◌}
use Rattle.dup_model.specs.Caches.{entry}
use Rattle.dup_cache.specs.Entries.{touched}
use Rattle.dup_cache.specs.Kept.{pages_of}
use Rattle.dup_cache.proofs.Touching.{seen_touched}
use Rattle.dup_cache.proofs.cache.PageCache.find.Goals as goal

pub returns-clause-ok : goal.returns-clause-ok
returns-clause-ok c =
    seen_touched c.args.path.now c.self.inside.entries.cap c.self.inside.edition c.self.inside.mode (pages_of c.self.inside.entries.entries)
    c.promote.new.entries.cap (pages_of c.promote.new.entries.entries) c.promote.ensures.cap c.promote.ensures.pages
    ∙ ap (touched c.args.path.now) c.self.view_is

pub returns-in_err-found-in-Some-clause-absent : goal.returns-in_err-found-in-Some-clause-absent
returns-in_err-found-in-Some-clause-absent c none =
    let both : Some c.in-Some.page.now.value ≡ None = c.in-Some.ensures ∙ ap (λ k. entry k c.args.path.now) c.self.view_is ∙ none in
    absurd (cc)
