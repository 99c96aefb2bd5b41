-- The marks of each form of statement.
use Rattle.std.proofs.Common.{◌≡◌, List, [], ◌∷◌, refl}
use Rattle.std.specs.Prelude.{Option, Some, None}
use Rattle.dup_template.specs.declared.statement.Statement.{Statement}
use Rattle.dup_template.specs.declared.statement.Statement.TheVariants as s
use Rattle.dup_template.specs.declared.statement.Statement.TheVariants.{rolls-Say, rolls-Nl, rolls-Field, rolls-Key, rolls-If, rolls-Each, rolls-Embed, rolls-Link}
use Rattle.dup_template.specs.declared.statement.Statement.TheFolds.{fold-roll-Statement}
use Rattle.dup_model.specs.declared.mark.Mark.TheVariants as mark
use Rattle.dup_names.specs.Words.{Word}
use Rattle.dup_model.specs.Content.{Content}
use Rattle.dup_model.specs.Names.{template_at, object_of, kind_named}
use Rattle.dup_model.specs.Here.{Here, on_key}
use Rattle.dup_model.specs.Marks.{statement_marks, body_marks, field_marks, if_marks, via_marks}
use Rattle.dup_model.specs.Turns.{each_marks}
use Rattle.dup_model.specs.Links.{link, link_via}

module _ (c : Content) (here : Here) where
  pub marks-Say : (words : Word) → statement_marks c (s.Say words) here ≡ mark.Plain words ∷ []
  marks-Say words = rw (← rolls-Say words, fold-roll-Statement) refl

  pub marks-Nl : statement_marks c s.Nl here ≡ mark.Plain (10 ∷ []) ∷ []
  marks-Nl = rw (← rolls-Nl, fold-roll-Statement) refl

  pub marks-Field : (name : Word) → statement_marks c (s.Field name) here ≡ on_key here.key (field_marks c here.kind name)
  marks-Field name = rw (← rolls-Field name, fold-roll-Statement) refl

  pub marks-Key : statement_marks c s.Key here ≡ on_key here.key (λ key. mark.Plain key ∷ [])
  marks-Key = rw (← rolls-Key, fold-roll-Statement) refl

  pub marks-If : (name : Word) (body : List Statement) →
      statement_marks c (s.If name body) here ≡ on_key here.key (if_marks c here.kind name (body_marks c body here))
  marks-If name body = rw (← rolls-If name body, fold-roll-Statement) refl

  pub marks-Each : (name : Word) (by order : Option Word) (body : List Statement) →
      statement_marks c (s.Each name by order body) here ≡ each_marks c name by order (body_marks c body) here.key
  marks-Each name by order body = rw (← rolls-Each name by order body, fold-roll-Statement) refl

  pub marks-Embed : (name : Word) → statement_marks c (s.Embed name None) here ≡ mark.Hole (object_of c.frame (template_at c.frame name) here.key) ∷ []
  marks-Embed name = rw (← rolls-Embed name None, fold-roll-Statement) refl

  pub marks-Embed-via : (name via : Word) → statement_marks c (s.Embed name (Some via)) here ≡ on_key here.key (via_marks c here.kind name via)
  marks-Embed-via name via = rw (← rolls-Embed name (Some via), fold-roll-Statement) refl

  pub marks-Link : (name : Word) (body : List Statement) →
      statement_marks c (s.Link name None body) here ≡ link c name (kind_named c.frame name) here.key (body_marks c body here)
  marks-Link name body = rw (← rolls-Link name None body, fold-roll-Statement) refl

  pub marks-Link-via : (name via : Word) (body : List Statement) →
      statement_marks c (s.Link name (Some via) body) here ≡ on_key here.key (link_via c here.kind name via (body_marks c body here))
  marks-Link-via name via body = rw (← rolls-Link name (Some via) body, fold-roll-Statement) refl
