use Rattle.std.proofs.Common.{◌∷◌, ap, subst, sym, take, ◌∙◌}
use Rattle.std.specs.Prelude.{bytes_eq}
use Rattle.std.specs.List.{find}
use Rattle.std.specs.Option.{option_map_or}
use Rattle.dup_cache.specs.Entries.{has_path, without}
use Rattle.dup_cache.specs.Kept.{IsKeyed, pages_of}
use Rattle.dup_cache.proofs.Tables.{has_pages, promoted_keyed, promoted_pages}
use Rattle.dup_cache.proofs.entries.promote.Goals as goal

pub returns-clause-found : goal.returns-clause-found
returns-clause-found c =
    c.promote.ensures.value
    ∙ has_pages c.of.result.path c.args.entries.now.entries c.requires
    ∙ ap (has_path (pages_of c.args.entries.now.entries)) c.of.ensures

pub returns-clause-pages : goal.returns-clause-pages
returns-clause-pages c =
    ap (λ t. pages_of t.entries) c.promote.ensures.entries
    ∙ promoted_pages c.of.result.path c.args.entries.now.cap c.args.entries.now.entries c.requires c.len-len.ensures.valid.0 c.len-len.ensures.valid.1
    ∙ ap (λ q. option_map_or (λ page. take c.args.entries.now.cap (page ∷ without (pages_of c.args.entries.now.entries) q))
    (find (λ page. bytes_eq page.path q) (pages_of c.args.entries.now.entries)) (pages_of c.args.entries.now.entries)) c.of.ensures

pub returns-clause-keyed : goal.returns-clause-keyed
returns-clause-keyed c = subst (λ t. IsKeyed t.entries) (sym c.promote.ensures.entries) (promoted_keyed c.of.result.path c.args.entries.now.entries c.requires)
