-- A fold over each form of statement.
use Rattle.std.proofs.Common.{◌≡◌, List, map, refl}
use Rattle.std.specs.Prelude.{Option}
use Rattle.dup_names.specs.Words.{Word}
use Rattle.dup_template.specs.declared.statement.Statement.{Statement, fold-Statement}
use Rattle.dup_template.specs.declared.statement.Statement.TheOpen.{Statement-F}
use Rattle.dup_template.specs.declared.statement.Statement.TheVariants as s
use Rattle.dup_template.specs.declared.statement.Statement.TheVariants.{rolls-Say, rolls-Nl, rolls-Field, rolls-Key, rolls-If, rolls-Each, rolls-Embed, rolls-Link}
use Rattle.dup_template.specs.declared.statement.Statement.TheFolds.{fold-roll-Statement}

module _ (A : Type 0) (step : Statement-F A → A) where
  pub fold-Say : (words : Word) → fold-Statement A step (s.Say words) ≡ step (Statement-F.Say words)
  fold-Say words = rw (← rolls-Say words, fold-roll-Statement) refl

  pub fold-Nl : fold-Statement A step s.Nl ≡ step Statement-F.Nl
  fold-Nl = rw (← rolls-Nl, fold-roll-Statement) refl

  pub fold-Field : (name : Word) → fold-Statement A step (s.Field name) ≡ step (Statement-F.Field name)
  fold-Field name = rw (← rolls-Field name, fold-roll-Statement) refl

  pub fold-Key : fold-Statement A step s.Key ≡ step Statement-F.Key
  fold-Key = rw (← rolls-Key, fold-roll-Statement) refl

  pub fold-If : (name : Word) (body : List Statement) → fold-Statement A step (s.If name body) ≡ step (Statement-F.If name (map (fold-Statement A step) body))
  fold-If name body = rw (← rolls-If name body, fold-roll-Statement) refl

  pub fold-Each : (name : Word) (by order : Option Word) (body : List Statement) →
      fold-Statement A step (s.Each name by order body) ≡ step (Statement-F.Each name by order (map (fold-Statement A step) body))
  fold-Each name by order body = rw (← rolls-Each name by order body, fold-roll-Statement) refl

  pub fold-Embed : (name : Word) (via : Option Word) → fold-Statement A step (s.Embed name via) ≡ step (Statement-F.Embed name via)
  fold-Embed name via = rw (← rolls-Embed name via, fold-roll-Statement) refl

  pub fold-Link : (name : Word) (via : Option Word) (body : List Statement) →
      fold-Statement A step (s.Link name via body) ≡ step (Statement-F.Link name via (map (fold-Statement A step) body))
  fold-Link name via body = rw (← rolls-Link name via body, fold-roll-Statement) refl
