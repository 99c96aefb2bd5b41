-- Bodies that break the same rule first.
use Rattle.std.proofs.Common.{◌≡◌, ℕ, ◌+◌, ◌<◌, List, [], ◌∷◌, ◌++◌, map, refl, ap, sym, subst, ◌∙◌, append-nil}
use Rattle.std.specs.Prelude.{Option, Some, None}
use Rattle.std.specs.Option.{option_or}
use Rattle.std.proofs.lemmas.Bool.{lt-ltb}
use Rattle.std.proofs.lemmas.List.{map-append}
use Rattle.dup_names.specs.Words.{Word}
use Rattle.dup_template.specs.Good.{Fault, Rule, in_turn, at_most, statement_fault, body_fault, field_fault, each_fault, link_fault, find_template}
use Rattle.dup_template.specs.declared.refusal.SiteRefusal.TheVariants.{TooMany}
use Rattle.dup_template.specs.declared.refusal.What.TheVariants.{Nesting}
use Rattle.dup_template.specs.Frame.{Frame, Head}
use Rattle.dup_template.specs.declared.statement.Statement.{Statement, roll-Statement}
use Rattle.dup_template.specs.declared.statement.Statement.TheOpen.{Statement-F}
use Rattle.dup_template.specs.declared.statement.Statement.TheVariants as s
use Rattle.dup_template.specs.declared.statement.Statement.TheVariants.{rolls-If, rolls-Each, rolls-Link}
use Rattle.dup_template.specs.declared.statement.Statement.TheFolds.{ind-Statement, fold-roll-Statement, map-Statement}
use Rattle.dup_template.proofs.GoodParts.{or-none}
use Rattle.dup_site.specs.KeptStatements.{BreakSame}

or-assoc : (a b c : Fault) → option_or a (option_or b c) ≡ option_or (option_or a b) c
or-assoc None b c = refl
or-assoc (Some x) b c = refl

in_turn-append : (rs qs : List Rule) (kind : Option Word) (depth : ℕ) → in_turn (rs ++ qs) kind depth ≡ option_or (in_turn rs kind depth) (in_turn qs kind depth)
in_turn-append [] qs kind depth = refl
in_turn-append (r ∷ rs) qs kind depth =
    ap (λ f. option_or (r kind depth) f) (in_turn-append rs qs kind depth) ∙ or-assoc (r kind depth) (in_turn rs kind depth) (in_turn qs kind depth)

or-first : (a b : Fault) → (a ≡ None → ⊥) → option_or a b ≡ a
or-first None b broken = absurd (broken refl)
or-first (Some x) b broken = refl

or-some : (a b : Fault) → (b ≡ None → ⊥) → option_or a b ≡ None → ⊥
or-some a b broken none = broken (or-none a b none).1

module _ (site : Frame) (earlier : List Head) (own : Word) (kind : Option Word) where
  body-append : (xs ys : List Statement) (depth : ℕ) →
      body_fault site earlier own (xs ++ ys) kind depth ≡ option_or (body_fault site earlier own xs kind depth) (body_fault site earlier own ys kind depth)
  body-append xs ys depth =
      ap (λ rs. in_turn rs kind depth) (map-append (statement_fault site earlier own) xs ys)
      ∙ in_turn-append (map (statement_fault site earlier own) xs) (map (statement_fault site earlier own) ys) kind depth

-- more behind the first broken rule
pub same_more : (depth : ℕ) (xs ys a b : List Statement) → BreakSame depth xs ys → BreakSame depth (xs ++ a) (ys ++ b)
same_more depth xs ys a b r = record {
  same = λ site earlier own kind.
      body-append site earlier own kind xs a depth ∙ or-first (body_fault site earlier own xs kind depth) (body_fault site earlier own a kind depth) (r.broken site earlier own kind)
      ∙ r.same site earlier own kind
      ∙ sym (or-first (body_fault site earlier own ys kind depth) (body_fault site earlier own b kind depth) (λ e. r.broken site earlier own kind (r.same site earlier own kind ∙ e)))
      ∙ sym (body-append site earlier own kind ys b depth);
  broken = λ site earlier own kind e.
      r.broken site earlier own kind
      (sym (or-first (body_fault site earlier own xs kind depth) (body_fault site earlier own a kind depth) (r.broken site earlier own kind)) ∙ sym (body-append site earlier own kind xs a depth) ∙ e);
}

-- behind the same statements, one each
same-last : (depth : ℕ) (zs : List Statement) (x y : Statement) →
    ((site : Frame) (earlier : List Head) (own : Word) (kind : Option Word) → statement_fault site earlier own x kind depth ≡ statement_fault site earlier own y kind depth) →
    ((site : Frame) (earlier : List Head) (own : Word) (kind : Option Word) → statement_fault site earlier own x kind depth ≡ None → ⊥) →
    BreakSame depth (zs ++ x ∷ []) (zs ++ y ∷ [])
same-last depth zs x y same broken = record {
  same = λ site earlier own kind.
      body-append site earlier own kind zs (x ∷ []) depth
      ∙ ap (λ f. option_or (body_fault site earlier own zs kind depth) (option_or f None)) (same site earlier own kind)
      ∙ sym (body-append site earlier own kind zs (y ∷ []) depth);
  broken = λ site earlier own kind e.
      or-some (body_fault site earlier own zs kind depth) (option_or (statement_fault site earlier own x kind depth) None)
      (λ g. broken site earlier own kind (or-none (statement_fault site earlier own x kind depth) None g).0)
      (sym (body-append site earlier own kind zs (x ∷ []) depth) ∙ e);
}

abbrev IsTooDeep : Statement → Type 0
IsTooDeep x = (site : Frame) (earlier : List Head) (own : Word) (kind : Option Word) (depth : ℕ) → 8 < depth →
    statement_fault site earlier own x kind depth ≡ Some (TooMany Nesting)

abbrev Kid : Type 0
Kid = (x : Statement) × IsTooDeep x

deep-first : (depth : ℕ) (f : Fault) → 8 < depth → option_or (at_most 8 Nesting depth) f ≡ Some (TooMany Nesting)
deep-first depth f deep = rw (lt-ltb 8 depth deep) refl

roll-deep : (y : Statement-F Kid) → IsTooDeep (roll-Statement (map-Statement Kid Statement (λ e. e.0) y))
roll-deep y site earlier own kind depth deep = rw fold-roll-Statement (deep-first depth _ deep)

too-deep : (x : Statement) → IsTooDeep x
too-deep = ind-Statement IsTooDeep (λ x y is. subst (λ z. IsTooDeep (roll-Statement z)) is (roll-deep y))

-- whatever stands too deep
pub same_deep : (depth : ℕ) (zs : List Statement) (x y : Statement) → 8 < depth → BreakSame depth (zs ++ x ∷ []) (zs ++ y ∷ [])
same_deep depth zs x y deep =
    same-last depth zs x y
    (λ site earlier own kind. too-deep x site earlier own kind depth deep ∙ sym (too-deep y site earlier own kind depth deep))
    (λ site earlier own kind e. let bad : Some (TooMany Nesting) ≡ None = sym (too-deep x site earlier own kind depth deep) ∙ e in cc)

rule-If : (site : Frame) (earlier : List Head) (own f : Word) (body : List Statement) (kind : Option Word) (depth : ℕ) →
    statement_fault site earlier own (s.If f body) kind depth ≡ option_or (at_most 8 Nesting depth) (option_or (field_fault site own kind f) (body_fault site earlier own body kind (depth + 1)))
rule-If site earlier own f body kind depth = rw (← rolls-If f body, fold-roll-Statement) refl

rule-Each : (site : Frame) (earlier : List Head) (own of : Word) (by order : Option Word) (body : List Statement) (kind : Option Word) (depth : ℕ) →
    statement_fault site earlier own (s.Each of by order body) kind depth
    ≡ option_or (at_most 8 Nesting depth) (option_or (each_fault site own kind of by order) (body_fault site earlier own body (Some of) (depth + 1)))
rule-Each site earlier own of by order body kind depth = rw (← rolls-Each of by order body, fold-roll-Statement) refl

rule-Link : (site : Frame) (earlier : List Head) (own name : Word) (via : Option Word) (body : List Statement) (kind : Option Word) (depth : ℕ) →
    statement_fault site earlier own (s.Link name via body) kind depth
    ≡ option_or (at_most 8 Nesting depth) (option_or (link_fault site own kind name via (find_template site.templates name)) (body_fault site earlier own body kind (depth + 1)))
rule-Link site earlier own name via body kind depth = rw (← rolls-Link name via body, fold-roll-Statement) refl

within-same : (a b x y : Fault) → x ≡ y → option_or a (option_or b x) ≡ option_or a (option_or b y)
within-same a b x y same = ap (λ f. option_or a (option_or b f)) same

within-broken : (a b x : Fault) → (x ≡ None → ⊥) → option_or a (option_or b x) ≡ None → ⊥
within-broken a b x broken e = or-some a (option_or b x) (or-some b x broken) e

-- closed behind the same statements
pub same_If : (depth : ℕ) (zs xs ys : List Statement) (f : Word) → BreakSame (depth + 1) xs ys → BreakSame depth (zs ++ s.If f xs ∷ []) (zs ++ s.If f ys ∷ [])
same_If depth zs xs ys f r =
    same-last depth zs (s.If f xs) (s.If f ys)
    (λ site earlier own kind. rule-If site earlier own f xs kind depth ∙ within-same _ _ _ _ (r.same site earlier own kind) ∙ sym (rule-If site earlier own f ys kind depth))
    (λ site earlier own kind e. within-broken _ _ _ (r.broken site earlier own kind) (sym (rule-If site earlier own f xs kind depth) ∙ e))

pub same_Each : (depth : ℕ) (zs xs ys : List Statement) (of : Word) (by order : Option Word) → BreakSame (depth + 1) xs ys →
    BreakSame depth (zs ++ s.Each of by order xs ∷ []) (zs ++ s.Each of by order ys ∷ [])
same_Each depth zs xs ys of by order r =
    same-last depth zs (s.Each of by order xs) (s.Each of by order ys)
    (λ site earlier own kind. rule-Each site earlier own of by order xs kind depth ∙ within-same _ _ _ _ (r.same site earlier own (Some of)) ∙ sym (rule-Each site earlier own of by order ys kind depth))
    (λ site earlier own kind e. within-broken _ _ _ (r.broken site earlier own (Some of)) (sym (rule-Each site earlier own of by order xs kind depth) ∙ e))

pub same_Link : (depth : ℕ) (zs xs ys : List Statement) (name : Word) (via : Option Word) → BreakSame (depth + 1) xs ys →
    BreakSame depth (zs ++ s.Link name via xs ∷ []) (zs ++ s.Link name via ys ∷ [])
same_Link depth zs xs ys name via r =
    same-last depth zs (s.Link name via xs) (s.Link name via ys)
    (λ site earlier own kind. rule-Link site earlier own name via xs kind depth ∙ within-same _ _ _ _ (r.same site earlier own kind) ∙ sym (rule-Link site earlier own name via ys kind depth))
    (λ site earlier own kind e. within-broken _ _ _ (r.broken site earlier own kind) (sym (rule-Link site earlier own name via xs kind depth) ∙ e))

pub same_left : (depth : ℕ) (xs ys a : List Statement) → BreakSame depth xs ys → BreakSame depth (xs ++ a) ys
same_left depth xs ys a r = subst (λ (zs : List Statement). BreakSame depth (xs ++ a) zs) (append-nil ys) (same_more depth xs ys a [] r)

pub same_right : (depth : ℕ) (xs ys b : List Statement) → BreakSame depth xs ys → BreakSame depth xs (ys ++ b)
same_right depth xs ys b r = subst (λ (zs : List Statement). BreakSame depth zs (ys ++ b)) (append-nil xs) (same_more depth xs ys [] b r)
