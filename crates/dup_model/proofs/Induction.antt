-- What holds of each form of statement whose body's statements have it holds of every statement.
use Rattle.std.proofs.Common.{List, [], ◌∷◌, map, subst}
use Rattle.std.specs.Prelude.{Option}
use Rattle.std.specs.List.{AllByRecursion}
use Rattle.dup_names.specs.Words.{Word}
use Rattle.dup_template.specs.declared.statement.Statement.{Statement, roll-Statement}
use Rattle.dup_template.specs.declared.statement.Statement.TheOpen.{Statement-F}
use Rattle.dup_template.specs.declared.statement.Statement.TheVariants as s
use Rattle.dup_template.specs.declared.statement.Statement.TheVariants.{rolls-Say, rolls-Nl, rolls-Field, rolls-Key, rolls-If, rolls-Each, rolls-Embed, rolls-Link}
use Rattle.dup_template.specs.declared.statement.Statement.TheFolds.{ind-Statement, map-Statement}

-- a form of statement, with what a fold gives of each statement within it, of which an induction knows P
abbrev pub within : (P : Statement → Type 0) (X : Type 0) → (Statement → X) → Statement-F ((x : Statement) × P x) → Statement-F X
within P X f y = map-Statement Statement X f (map-Statement ((x : Statement) × P x) Statement (λ e. e.0) y)

pub record ByForms (P : Statement → Type 0) : Type 0 where
  pub say : (words : Word) → P (s.Say words)
  pub nl : P s.Nl
  pub field : (name : Word) → P (s.Field name)
  pub key : P s.Key
  pub if_field : (name : Word) (body : List Statement) → AllByRecursion P body → P (s.If name body)
  pub each : (name : Word) (by order : Option Word) (body : List Statement) → AllByRecursion P body → P (s.Each name by order body)
  pub embed : (name : Word) (via : Option Word) → P (s.Embed name via)
  pub link : (name : Word) (via : Option Word) (body : List Statement) → AllByRecursion P body → P (s.Link name via body)

module _ (P : Statement → Type 0) (forms : ByForms P) where
  abbrev Kid : Type 0
  Kid = (x : Statement) × P x

  kids : (body : List Kid) → AllByRecursion P (map (λ e. e.0) body)
  kids [] = tt
  kids (e ∷ es) = (e.1, kids es)

  from_step : (y : Statement-F Kid) → P (roll-Statement (map-Statement Kid Statement (λ e. e.0) y))
  from_step (Statement-F.Say w) = rw (rolls-Say w) (forms.say w)
  from_step Statement-F.Nl = rw rolls-Nl forms.nl
  from_step (Statement-F.Field n) = rw (rolls-Field n) (forms.field n)
  from_step Statement-F.Key = rw rolls-Key forms.key
  from_step (Statement-F.If n body) = rw (rolls-If n (map (λ e. e.0) body)) (forms.if_field n (map (λ e. e.0) body) (kids body))
  from_step (Statement-F.Each n by order body) = rw (rolls-Each n by order (map (λ e. e.0) body)) (forms.each n by order (map (λ e. e.0) body) (kids body))
  from_step (Statement-F.Embed n via) = rw (rolls-Embed n via) (forms.embed n via)
  from_step (Statement-F.Link n via body) = rw (rolls-Link n via (map (λ e. e.0) body)) (forms.link n via (map (λ e. e.0) body) (kids body))

  pub by_forms : (x : Statement) → P x
  by_forms = ind-Statement P (λ x y is. subst (λ z. P (roll-Statement z)) is (from_step y))

  pub all_by_forms : (body : List Statement) → AllByRecursion P body
  all_by_forms [] = tt
  all_by_forms (x ∷ xs) = (by_forms x, all_by_forms xs)
