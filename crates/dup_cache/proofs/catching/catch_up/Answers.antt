use Rattle.std.proofs.Common.{ap, drop, refl, sym, ◌∙◌}
use Rattle.dup_model.specs.Caches.{caught_up}
use Rattle.dup_model.specs.Editions.{edition}
use Rattle.dup_cache.specs.Kept.{pages_of}
use Rattle.dup_cache.proofs.Renewing.{left_is, renewed_is}
use Rattle.dup_cache.proofs.catching.catch_up.Goals as goal

pub returns-in-Invalidate-clause-ok : goal.returns-in-Invalidate-clause-ok
returns-in-Invalidate-clause-ok c held =
    c.remove_changed.ensures.pages
    ∙ left_is c.args.edition.now.log c.args.from c.changed_since-changes.result (pages_of c.args.entries.now.entries) c.changed_since-changes.ensures
    ∙ ap (λ m. caught_up m (drop c.args.from c.args.edition.now.log) (edition c.args.edition.now.log) (pages_of c.args.entries.now.entries)) (sym c.in-Invalidate.is)

pub returns-in-Invalidate-clause-invalidate : goal.returns-in-Invalidate-clause-invalidate
returns-in-Invalidate-clause-invalidate c mode = (
  refl,
  c.remove_changed.ensures.pages
      ∙ left_is c.args.edition.now.log c.args.from c.changed_since-changes.result (pages_of c.args.entries.now.entries) c.changed_since-changes.ensures
      ∙ ap (λ m. caught_up m (drop c.args.from c.args.edition.now.log) (edition c.args.edition.now.log) (pages_of c.args.entries.now.entries)) (sym c.in-Invalidate.is),
)

pub returns-in_ok-renew_changed-in-Update-clause-ok : goal.returns-in_ok-renew_changed-in-Update-clause-ok
returns-in_ok-renew_changed-in-Update-clause-ok c held =
    c.in_ok-renew_changed-in-Update.ensures.ok
    ∙ renewed_is c.args.edition.now.log c.args.from c.changed_since-changes.result (pages_of c.args.entries.now.entries) c.requires.within c.changed_since-changes.ensures held
    ∙ ap (λ m. caught_up m (drop c.args.from c.args.edition.now.log) (edition c.args.edition.now.log) (pages_of c.args.entries.now.entries)) (sym c.in-Update.is)
