-- What is kept goes along with what the lines say, whatever the line.
use Rattle.std.proofs.Common.{◌≡◌, ℕ, ◌+◌, ◌<◌, ◌≤◌, inl, inr, List, [], ◌∷◌, ◌++◌, length, refl, sym, subst, arith}
use Rattle.std.specs.Prelude.{Bool, true, false, not, ◌&&◌, nat_lt, if◌then◌else◌, Option, None}
use Rattle.std.proofs.lemmas.Bool.{ltb-true, ltb-false, le-ltb, and_parts}
use Rattle.dup_names.specs.Words.{Word}
use Rattle.dup_template.specs.declared.site.KindPart.{KindPart}
use Rattle.dup_template.specs.declared.site.TemplatePart.{TemplatePart}
use Rattle.dup_template.specs.declared.site.PageRule.{PageRule}
use Rattle.dup_template.specs.declared.statement.Statement.TheVariants as s
use Rattle.dup_site.specs.declared.site_line.SiteLine.{SiteLine}
use Rattle.dup_site.specs.declared.site_line.SiteLine.TheVariants as line
use Rattle.dup_site.specs.declared.site_line.Head.{Head}
use Rattle.dup_site.specs.declared.site_line.Head.TheVariants as head
use Rattle.dup_site.specs.Draft.{Draft, Open, is_none, step, open_statement}
use Rattle.dup_site.specs.KeptStatements.{AreKeptOf, Keeping, head_size, opens, within, beyond, keep, passing, mark}
use Rattle.dup_site.proofs.StatementSizes.{stack_size, size_Say, size_Nl, size_Field, size_Key, size_Embed}
use Rattle.dup_site.proofs.GoesAlong.{Over, Stacks, Goes_along, Along, dr, exact-step}
use Rattle.dup_site.proofs.GoesAlongPast.{at, over-along, put-beyond, open-beyond, template-beyond, page-beyond, kind-beyond, end-beyond}
use Rattle.dup_site.proofs.GoesAlongTooDeep.{Spoil, mark-over, spoil-along, put-spoiled, open-spoiled, first-deep, end-spoiled}

module _ (ks : List KindPart) (ps : List PageRule) (ts us : List TemplatePart) (all : AreKeptOf ts us) where
  over-mark : (deep : Bool) (n passed m : ℕ) (os bs : List Open) → Over n passed os bs → (y : Option Draft) →
      Along (passing (at ks ps ts us all n passed deep os) m) y → Along (mark (at ks ps ts us all n passed deep os) m) y
  over-mark deep n passed m os bs o y along = subst (λ (x : Option Keeping). Along x y) (sym (mark-over (at ks ps ts us all n passed deep os) m o.many)) along

  over-line : (deep : Bool) (n passed : ℕ) (os bs : List Open) → Over n passed os bs → (l : SiteLine) →
      Along (beyond (at ks ps ts us all n passed deep os) l) (step (dr ks ps us bs) l)
  over-line deep n passed os bs o line.Blank = over-along ks ps ts us all deep n passed os bs o
  over-line deep n passed os bs o (line.Kind name fields) = kind-beyond ks ps ts us all n passed os bs name fields o
  over-line deep n passed os bs o (line.Page rule) = page-beyond ks ps ts us all n passed os bs rule o
  over-line deep n passed os bs o (line.Open (head.Template name kind)) = template-beyond ks ps ts us all n passed os bs name kind o
  over-line deep n passed os bs o (line.Open (head.If f)) =
      over-mark deep n passed (passed + 1) os bs o _ (open-beyond ks ps ts us all deep n passed os bs (head.If f) refl o)
  over-line deep n passed os bs o (line.Open (head.Each of by order)) =
      over-mark deep n passed (passed + 1) os bs o _ (open-beyond ks ps ts us all deep n passed os bs (head.Each of by order) refl o)
  over-line deep n passed os bs o (line.Open (head.Link name via)) =
      over-mark deep n passed (passed + 1) os bs o _ (open-beyond ks ps ts us all deep n passed os bs (head.Link name via) refl o)
  over-line deep n passed os bs o (line.Say w) = over-mark deep n passed passed os bs o _ (put-beyond ks ps ts us all deep n passed os bs (s.Say w) o)
  over-line deep n passed os bs o line.Nl = over-mark deep n passed passed os bs o _ (put-beyond ks ps ts us all deep n passed os bs s.Nl o)
  over-line deep n passed os bs o (line.Field f) = over-mark deep n passed passed os bs o _ (put-beyond ks ps ts us all deep n passed os bs (s.Field f) o)
  over-line deep n passed os bs o line.Key = over-mark deep n passed passed os bs o _ (put-beyond ks ps ts us all deep n passed os bs s.Key o)
  over-line deep n passed os bs o (line.Embed name via) = over-mark deep n passed passed os bs o _ (put-beyond ks ps ts us all deep n passed os bs (s.Embed name via) o)
  over-line deep n passed os bs o line.End = end-beyond ks ps ts us all deep n passed os bs o

  -- nothing but statements may stand in a template
  kind-none : (inside : List Open) (b : Open) (outer : List Open) (name : Word) (fields : List Word) → Along None (step (dr ks ps us (inside ++ b ∷ outer)) (line.Kind name fields))
  kind-none [] b outer name fields = elim (is_none us && is_none ps) as (λ e. Along None (if e then None else None)) [ true ↦ tt | false ↦ tt ]
  kind-none (i ∷ inside) b outer name fields = elim (is_none us && is_none ps) as (λ e. Along None (if e then None else None)) [ true ↦ tt | false ↦ tt ]

  page-none : (inside : List Open) (b : Open) (outer : List Open) (rule : PageRule) → Along None (step (dr ks ps us (inside ++ b ∷ outer)) (line.Page rule))
  page-none [] b outer rule = tt
  page-none (i ∷ inside) b outer rule = tt

  template-none : (inside : List Open) (b : Open) (outer : List Open) (name : Word) (kind : Option Word) →
      Along None (step (dr ks ps us (inside ++ b ∷ outer)) (line.Open (head.Template name kind)))
  template-none [] b outer name kind = elim (is_none ps) as (λ e. Along None (if e then None else None)) [ true ↦ tt | false ↦ tt ]
  template-none (i ∷ inside) b outer name kind = elim (is_none ps) as (λ e. Along None (if e then None else None)) [ true ↦ tt | false ↦ tt ]

  spoil-line : (n passed : ℕ) (a b : Open) (outer inside : List Open) → n < 4097 → Spoil n passed a b outer inside → (l : SiteLine) →
      Along (beyond (at ks ps ts us all n passed true (a ∷ outer)) l) (step (dr ks ps us (inside ++ b ∷ outer)) l)
  spoil-line n passed a b outer inside few p line.Blank = spoil-along ks ps ts us all n passed a b outer inside p
  spoil-line n passed a b outer inside few p (line.Kind name fields) = kind-none inside b outer name fields
  spoil-line n passed a b outer inside few p (line.Page rule) = page-none inside b outer rule
  spoil-line n passed a b outer inside few p (line.Open (head.Template name kind)) = template-none inside b outer name kind
  spoil-line n passed a b outer inside few p (line.Open (head.If f)) = open-spoiled ks ps ts us all n passed a b outer inside (head.If f) refl few p
  spoil-line n passed a b outer inside few p (line.Open (head.Each of by order)) = open-spoiled ks ps ts us all n passed a b outer inside (head.Each of by order) refl few p
  spoil-line n passed a b outer inside few p (line.Open (head.Link name via)) = open-spoiled ks ps ts us all n passed a b outer inside (head.Link name via) refl few p
  spoil-line n passed a b outer inside few p (line.Say w) = put-spoiled ks ps ts us all n passed a b outer inside (s.Say w) (size_Say w) few p
  spoil-line n passed a b outer inside few p line.Nl = put-spoiled ks ps ts us all n passed a b outer inside s.Nl size_Nl few p
  spoil-line n passed a b outer inside few p (line.Field f) = put-spoiled ks ps ts us all n passed a b outer inside (s.Field f) (size_Field f) few p
  spoil-line n passed a b outer inside few p line.Key = put-spoiled ks ps ts us all n passed a b outer inside s.Key size_Key few p
  spoil-line n passed a b outer inside few p (line.Embed name via) = put-spoiled ks ps ts us all n passed a b outer inside (s.Embed name via) (size_Embed name via) few p
  spoil-line n passed a b outer inside few p line.End = end-spoiled ks ps ts us all n passed a b outer inside p

  deep-open : (n : ℕ) (os : List Open) (h : Head) → head_size h ≡ 1 → n < 4097 → n ≡ stack_size os → 8 < length os →
      Along (mark (at ks ps ts us all n 0 false os) 1) (open_statement h (dr ks ps us os) os)
  deep-open n [] h is few counts deep = absurd (omega arith)
  deep-open n (o ∷ outer) h is few counts deep = first-deep ks ps ts us all n o outer h is few deep counts

  deep-line : (n : ℕ) (os : List Open) → n < 4097 → n ≡ stack_size os → (l : SiteLine) → opens l ≡ true → 8 < length os →
      Along (mark (at ks ps ts us all n 0 false os) 1) (step (dr ks ps us os) l)
  deep-line n os few counts line.Blank is deep = cc
  deep-line n os few counts (line.Kind name fields) is deep = cc
  deep-line n os few counts (line.Page rule) is deep = cc
  deep-line n os few counts (line.Open (head.Template name kind)) is deep = cc
  deep-line n os few counts (line.Open (head.If f)) is deep = deep-open n os (head.If f) refl few counts deep
  deep-line n os few counts (line.Open (head.Each of by order)) is deep = deep-open n os (head.Each of by order) refl few counts deep
  deep-line n os few counts (line.Open (head.Link name via)) is deep = deep-open n os (head.Link name via) refl few counts deep
  deep-line n os few counts (line.Say w) is deep = cc
  deep-line n os few counts line.Nl is deep = cc
  deep-line n os few counts (line.Field f) is deep = cc
  deep-line n os few counts line.Key is deep = cc
  deep-line n os few counts (line.Embed name via) is deep = cc
  deep-line n os few counts line.End is deep = cc

  exact-by : (n : ℕ) (os : List Open) → n < 4097 → n ≡ stack_size os → (l : SiteLine) (e : Bool) → opens l && nat_lt 8 (length os) ≡ e →
      Along (if e then mark (at ks ps ts us all n 0 false os) 1 else within (at ks ps ts us all n 0 false os) l) (step (dr ks ps us os) l)
  exact-by n os few counts l true is =
      let both = and_parts (opens l) (nat_lt 8 (length os)) is in
      deep-line n os few counts l both.0 (ltb-true 8 (length os) both.1)
  exact-by n os few counts l false is = exact-step ks ps ts us all n os counts l

  exact-room : (n : ℕ) (os : List Open) → n < 4097 → n ≡ stack_size os → (l : SiteLine) (e : Bool) → nat_lt n 4097 ≡ e →
      Along (if (not e) then beyond (at ks ps ts us all n 0 false os) l else (if (opens l && nat_lt 8 (length os)) then mark (at ks ps ts us all n 0 false os) 1 else within (at ks ps ts us all n 0 false os) l)) (step (dr ks ps us os) l)
  exact-room n os few counts l true is = exact-by n os few counts l (opens l && nat_lt 8 (length os)) refl
  exact-room n os few counts l false is = absurd (let a : 4097 ≤ n = ltb-false n 4097 is in omega arith)

  exact-keep : (n : ℕ) (os : List Open) → n < 4097 → n ≡ stack_size os → (l : SiteLine) → Along (keep (at ks ps ts us all n 0 false os) l) (step (dr ks ps us os) l)
  exact-keep n os few counts l = exact-room n os few counts l (nat_lt n 4097) refl

  over-keep : (deep : Bool) (n passed : ℕ) (os bs : List Open) → Over n passed os bs → (l : SiteLine) → Along (keep (at ks ps ts us all n passed deep os) l) (step (dr ks ps us bs) l)
  over-keep true n passed os bs o l = over-line true n passed os bs o l
  over-keep false n passed os bs o l = let m = o.many in rw (le-ltb n 4097 (omega arith)) (over-line false n passed os bs o l)

  along-keep : (n passed : ℕ) (deep : Bool) (os bs : List Open) → Stacks n passed deep os bs → (l : SiteLine) → Along (keep (at ks ps ts us all n passed deep os) l) (step (dr ks ps us bs) l)
  along-keep n passed deep os bs (inl x) l =
      subst (λ (m : ℕ). Along (keep (at ks ps ts us all n m deep os) l) (step (dr ks ps us bs) l)) (sym x.none)
      (subst (λ (e : Bool). Along (keep (at ks ps ts us all n 0 e os) l) (step (dr ks ps us bs) l)) (sym x.shallow)
      (subst (λ (xs : List Open). Along (keep (at ks ps ts us all n 0 false xs) l) (step (dr ks ps us bs) l)) (sym x.same)
      (exact-keep n bs x.few x.counts l)))
  along-keep n passed deep os bs (inr (inl o)) l = over-keep deep n passed os bs o l
  along-keep n passed deep os bs (inr (inr x)) l =
      let p = x.2 in
      subst (λ (e : Bool). Along (keep (at ks ps ts us all n passed e os) l) (step (dr ks ps us bs) l)) (sym x.1)
      (subst (λ (xs : List Open). Along (keep (at ks ps ts us all n passed true xs) l) (step (dr ks ps us bs) l)) (sym p.ks_are)
      (subst (λ (xs : List Open). Along (keep (at ks ps ts us all n passed true (p.top ∷ p.outer)) l) (step (dr ks ps us xs) l)) (sym p.ds_are)
      (spoil-line n passed p.top p.below p.outer p.inside x.0
      (record { same_head = p.same_head; count = p.count; inner = p.inner; kept_size = p.kept_size; size = p.size; next = p.next; now = p.now }) l)))

-- one line more goes along
pub keep-along : (k : Keeping) (d : Draft) → Goes_along k d → (l : SiteLine) → Along (keep k l) (step d l)
keep-along k d g l =
    subst (λ (ks : List KindPart). Along (keep (record { draft = record { kinds = ks; templates = k.draft.templates; pages = k.draft.pages; stack = k.draft.stack }; begun = k.begun; passed = k.passed; deep = k.deep }) l) (step d l)) (sym g.kinds)
    (subst (λ (ps : List PageRule). Along (keep (record { draft = record { kinds = d.kinds; templates = k.draft.templates; pages = ps; stack = k.draft.stack }; begun = k.begun; passed = k.passed; deep = k.deep }) l) (step d l)) (sym g.pages)
    (along-keep d.kinds d.pages k.draft.templates d.templates g.templates k.begun k.passed k.deep k.draft.stack d.stack g.stacks l))
