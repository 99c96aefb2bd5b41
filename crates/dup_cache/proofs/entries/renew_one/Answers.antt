use Rattle.std.proofs.Common.{ap, sym, ◌∙◌}
use Rattle.std.specs.Option.{option_map}
use Rattle.dup_cache.specs.Kept.{pages_of}
use Rattle.dup_cache.specs.Renewing.{renewed}
use Rattle.dup_cache.proofs.Tables.{without-renewed}
use Rattle.dup_cache.proofs.entries.renew_one.Goals as goal

pub returns-in-None-clause-pages : goal.returns-in-None-clause-pages
returns-in-None-clause-pages c =
    c.remove-was_there.ensures.pages
    ∙ without-renewed c.args.renewal.key.path (pages_of c.args.entries.now.entries)
    ∙ ap (λ o. renewed (pages_of c.args.entries.now.entries) (c.args.renewal.key.path, option_map (λ p. p.value) o)) (sym c.in-None.is)
