use Rattle.std.proofs.Common.{◌≡◌, ap, subst, sym, ◌∙◌}
use Rattle.dup_cache.specs.Entries.{has_path}
use Rattle.dup_cache.specs.Kept.{IsKeyed, pages_of}
use Rattle.dup_cache.proofs.Tables.{IsSome-is_some, has_pages, not_both, put_keyed, put_pages}
use Rattle.dup_cache.proofs.entries.put.Goals as goal

pub returns-clause-ok : goal.returns-clause-ok
returns-clause-ok c =
    let own : c.of-key.result.path ≡ c.args.page.value.path = c.of-key.ensures ∙ c.path.ensures ∙ ap (λ p. p.path) c.deref.ensures in
    ap (λ t. pages_of t.entries) c.in_ok-_old.ensures.entries
    ∙ put_pages c.args.entries.now c.of-key.result c.args.page own c.requires c.len-len.ensures.valid.0 c.len-len.ensures.valid.1 c.len-len.ensures.valid.2

pub returns-clause-keyed : goal.returns-clause-keyed
returns-clause-keyed c =
    let own : c.of-key.result.path ≡ c.args.page.value.path = c.of-key.ensures ∙ c.path.ensures ∙ ap (λ p. p.path) c.deref.ensures in
    subst (λ t. IsKeyed t.entries) (sym c.in_ok-_old.ensures.entries) (put_keyed c.args.entries.now c.of-key.result c.args.page own c.requires)

pub returns-in_err-_old-clause-replaced : goal.returns-in_err-_old-clause-replaced
returns-in_err-_old-clause-replaced c has =
    let own : c.of-key.result.path ≡ c.args.page.value.path = c.of-key.ensures ∙ c.path.ensures ∙ ap (λ p. p.path) c.deref.ensures in
    let there = IsSome-is_some _ (has_pages c.of-key.result.path c.args.entries.now.entries c.requires ∙ ap (has_path (pages_of c.args.entries.now.entries)) own ∙ has) in
    not_both _ c.in_err-_old.was (c.put.ensures.succeeds there)
