-- How many statements are begun in what is open.
use Rattle.std.proofs.Common.{◌≡◌, ℕ, ◌+◌, List, [], ◌∷◌, ◌++◌, map, refl, ap, ◌∙◌, arith}
use Rattle.std.specs.Prelude.{Option}
use Rattle.std.specs.List.{sum_by}
use Rattle.std.proofs.lemmas.List.{map-append}
use Rattle.std.proofs.lemmas.List.Sums.{sum_by-append}
use Rattle.dup_names.specs.Words.{Word}
use Rattle.dup_template.specs.Good.{size, body_size}
use Rattle.dup_template.specs.declared.statement.Statement.{Statement}
use Rattle.dup_template.specs.declared.statement.Statement.TheVariants as s
use Rattle.dup_template.specs.declared.statement.Statement.TheVariants.{rolls-Say, rolls-Nl, rolls-Field, rolls-Key, rolls-If, rolls-Each, rolls-Embed, rolls-Link}
use Rattle.dup_template.specs.declared.statement.Statement.TheFolds.{fold-roll-Statement}
use Rattle.dup_site.specs.Draft.{Open}
use Rattle.dup_site.specs.KeptStatements.{head_size}

abbrev pub stack_size : List Open → ℕ
stack_size [] = 0
stack_size (o ∷ outer) = head_size o.head + body_size o.done + stack_size outer

pub size-more : (xs : List Statement) (x : Statement) → body_size (xs ++ x ∷ []) ≡ body_size xs + size x
size-more xs x =
    let e : body_size (xs ++ x ∷ []) ≡ body_size xs + sum_by (λ n. n) (size x ∷ []) =
    ap (sum_by (λ n. n)) (map-append size xs (x ∷ [])) ∙ sum_by-append (λ n. n) (map size xs) (size x ∷ []) in
    omega (arith, e)

pub size_Say : (w : Word) → size (s.Say w) ≡ 1
size_Say w = rw (← rolls-Say w, fold-roll-Statement) refl

pub size_Nl : size s.Nl ≡ 1
size_Nl = rw (← rolls-Nl, fold-roll-Statement) refl

pub size_Field : (f : Word) → size (s.Field f) ≡ 1
size_Field f = rw (← rolls-Field f, fold-roll-Statement) refl

pub size_Key : size s.Key ≡ 1
size_Key = rw (← rolls-Key, fold-roll-Statement) refl

pub size_Embed : (name : Word) (via : Option Word) → size (s.Embed name via) ≡ 1
size_Embed name via = rw (← rolls-Embed name via, fold-roll-Statement) refl

pub size_If : (f : Word) (body : List Statement) → size (s.If f body) ≡ 1 + body_size body
size_If f body = rw (← rolls-If f body, fold-roll-Statement) refl

pub size_Each : (of : Word) (by order : Option Word) (body : List Statement) → size (s.Each of by order body) ≡ 1 + body_size body
size_Each of by order body = rw (← rolls-Each of by order body, fold-roll-Statement) refl

pub size_Link : (name : Word) (via : Option Word) (body : List Statement) → size (s.Link name via body) ≡ 1 + body_size body
size_Link name via body = rw (← rolls-Link name via body, fold-roll-Statement) refl
