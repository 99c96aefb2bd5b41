use Rattle.std.proofs.Common.{ap, subst, sym, ◌∙◌}
use Rattle.std.specs.Option.{is_some}
use Rattle.dup_cache.specs.Entries.{has_path, without}
use Rattle.dup_cache.specs.Kept.{IsKeyed, pages_of}
use Rattle.dup_cache.proofs.Tables.{has_pages, removed_keyed, taken_pages}
use Rattle.dup_cache.proofs.entries.remove.Goals as goal

pub returns-clause-found : goal.returns-clause-found
returns-clause-found c =
    c.is_some.ensures
    ∙ ap is_some c.pop.ensures.value
    ∙ has_pages c.of.result.path c.args.entries.now.entries c.requires
    ∙ ap (has_path (pages_of c.args.entries.now.entries)) c.of.ensures

pub returns-clause-pages : goal.returns-clause-pages
returns-clause-pages c =
    ap (λ t. pages_of t.entries) c.pop.ensures.entries
    ∙ taken_pages c.of.result.path c.args.entries.now.entries c.requires c.len-len.ensures.valid.0
    ∙ ap (without (pages_of c.args.entries.now.entries)) c.of.ensures

pub returns-clause-keyed : goal.returns-clause-keyed
returns-clause-keyed c = subst (λ t. IsKeyed t.entries) (sym c.pop.ensures.entries) (removed_keyed c.of.result.path c.args.entries.now.entries c.requires)
