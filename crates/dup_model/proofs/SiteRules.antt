-- The rule of each form of statement.
use Rattle.std.proofs.Common.{◌≡◌, ℕ, ◌+◌, List, refl}
use Rattle.std.specs.Prelude.{Option, Some, None}
use Rattle.std.specs.Option.{option_or}
use Rattle.dup_names.specs.Words.{Word}
use Rattle.dup_template.specs.declared.refusal.What.TheVariants.{Nesting}
use Rattle.dup_template.specs.Frame.{Frame, Head}
use Rattle.dup_template.specs.declared.statement.Statement.{Statement}
use Rattle.dup_template.specs.declared.statement.Statement.TheVariants as s
use Rattle.dup_template.specs.declared.statement.Statement.TheVariants.{rolls-Say, rolls-Nl, rolls-Field, rolls-Key, rolls-If, rolls-Each, rolls-Embed, rolls-Link}
use Rattle.dup_template.specs.declared.statement.Statement.TheFolds.{fold-roll-Statement}
use Rattle.dup_template.specs.Good.{Fault, at_most, statement_fault, body_fault, field_fault, key_fault, each_fault, embed_fault, link_fault, find_template}

module _ (site : Frame) (earlier : List Head) (own : Word) (kind : Option Word) (depth : ℕ) where
  abbrev deep : Fault → Fault
  deep fault = option_or (at_most 8 Nesting depth) fault

  pub rule-Say : (words : Word) → statement_fault site earlier own (s.Say words) kind depth ≡ deep None
  rule-Say words = rw (← rolls-Say words, fold-roll-Statement) refl

  pub rule-Nl : statement_fault site earlier own s.Nl kind depth ≡ deep None
  rule-Nl = rw (← rolls-Nl, fold-roll-Statement) refl

  pub rule-Field : (name : Word) → statement_fault site earlier own (s.Field name) kind depth ≡ deep (field_fault site own kind name)
  rule-Field name = rw (← rolls-Field name, fold-roll-Statement) refl

  pub rule-Key : statement_fault site earlier own s.Key kind depth ≡ deep (key_fault own kind)
  rule-Key = rw (← rolls-Key, fold-roll-Statement) refl

  pub rule-If : (name : Word) (body : List Statement) →
      statement_fault site earlier own (s.If name body) kind depth ≡ deep (option_or (field_fault site own kind name) (body_fault site earlier own body kind (depth + 1)))
  rule-If name body = rw (← rolls-If name body, fold-roll-Statement) refl

  pub rule-Each : (of : Word) (by order : Option Word) (body : List Statement) →
      statement_fault site earlier own (s.Each of by order body) kind depth
      ≡ deep (option_or (each_fault site own kind of by order) (body_fault site earlier own body (Some of) (depth + 1)))
  rule-Each of by order body = rw (← rolls-Each of by order body, fold-roll-Statement) refl

  pub rule-Embed : (name : Word) (via : Option Word) →
      statement_fault site earlier own (s.Embed name via) kind depth ≡ deep (embed_fault site earlier own kind name via (find_template site.templates name))
  rule-Embed name via = rw (← rolls-Embed name via, fold-roll-Statement) refl

  pub rule-Link : (name : Word) (via : Option Word) (body : List Statement) →
      statement_fault site earlier own (s.Link name via body) kind depth
      ≡ deep (option_or (link_fault site own kind name via (find_template site.templates name)) (body_fault site earlier own body kind (depth + 1)))
  rule-Link name via body = rw (← rolls-Link name via body, fold-roll-Statement) refl
