-- What is kept goes along with what the lines say.
use Rattle.std.proofs.Common.{◌≡◌, ℕ, ◌+◌, ◌<◌, ◌≤◌, ◌⊎◌, inl, inr, List, [], ◌∷◌, ◌++◌, map, length, refl, arith}
use Rattle.std.specs.Prelude.{Bool, true, false, nat_lt, if◌then◌else◌, Option, Some, None, option_map}
use Rattle.std.proofs.lemmas.Bool.{ltb-true, ltb-false}
use Rattle.dup_names.specs.Words.{Word}
use Rattle.dup_template.specs.Good.{size, body_size}
use Rattle.dup_template.specs.declared.site.KindPart.{KindPart}
use Rattle.dup_template.specs.declared.site.TemplatePart.{TemplatePart}
use Rattle.dup_template.specs.declared.site.PageRule.{PageRule}
use Rattle.dup_template.specs.declared.statement.Statement.{Statement}
use Rattle.dup_template.specs.declared.statement.Statement.TheVariants as s
use Rattle.dup_site.specs.declared.site_line.SiteLine.{SiteLine}
use Rattle.dup_site.specs.declared.site_line.SiteLine.TheVariants as line
use Rattle.dup_site.specs.declared.site_line.Head.{Head}
use Rattle.dup_site.specs.declared.site_line.Head.TheVariants as head
use Rattle.dup_site.specs.Draft.{Draft, Open, is_none, step, put, close, open_statement}
use Rattle.dup_site.specs.KeptStatements.{IsKeptOf, AreKeptOf, BreakSame, Keeping, head_size, begins, counted}
use Rattle.dup_site.proofs.StatementSizes.{stack_size, size-more, size_Say, size_Nl, size_Field, size_Key, size_Embed, size_If, size_Each, size_Link}

abbrev pub heads : List Open → List Head
heads os = map (λ o. o.head) os

abbrev pub AllInner : List Head → Type 0
AllInner [] = Unit {0}
AllInner (h ∷ hs) = (head_size h ≡ 1) × AllInner hs

-- all is kept so far
pub record Exact (begun passed : ℕ) (deep : Bool) (ks ds : List Open) : Type 0 where
  pub shallow : deep ≡ false
  pub few : begun < 4097
  pub none : passed ≡ 0
  pub same : ks ≡ ds
  pub counts : begun ≡ stack_size ds

-- the template has too many statements, and what is open has the same heads, those passed over aside
pub record Over (begun passed : ℕ) (ks ds : List Open) : Type 0 where
  pub many : 4096 < begun
  pub inside : List Head
  pub heads_are : heads ds ≡ inside ++ heads ks
  pub count : length inside ≡ passed
  pub inner : AllInner inside
  pub kept_more : 4096 < stack_size ks
  pub more : 4096 < stack_size ds

-- a statement was too deep: the innermost that is kept breaks the same rule first, once a statement more is closed in it
pub record Spoiled (begun passed : ℕ) (ks ds : List Open) : Type 0 where
  pub top : Open
  pub below : Open
  pub inside : List Open
  pub outer : List Open
  pub ks_are : ks ≡ top ∷ outer
  pub ds_are : ds ≡ inside ++ below ∷ outer
  pub same_head : below.head ≡ top.head
  pub count : length inside ≡ passed
  pub inner : AllInner (heads inside)
  pub kept_size : begun ≡ stack_size (top ∷ outer)
  pub size : begun ≡ stack_size (inside ++ below ∷ outer)
  pub next : (x : Statement) → BreakSame (length (top ∷ outer)) top.done (below.done ++ x ∷ [])
  pub now : passed ≡ 0 → BreakSame (length (top ∷ outer)) top.done below.done

abbrev pub Stacks : ℕ → ℕ → Bool → List Open → List Open → Type 0
Stacks begun passed deep ks ds =
    Exact begun passed deep ks ds ⊎ (Over begun passed ks ds ⊎ ((begun < 4097) × (deep ≡ true) × Spoiled begun passed ks ds))

pub record Goes_along (k : Keeping) (d : Draft) : Type 0 where
  pub kinds : k.draft.kinds ≡ d.kinds
  pub pages : k.draft.pages ≡ d.pages
  pub templates : AreKeptOf k.draft.templates d.templates
  pub stacks : Stacks k.begun k.passed k.deep k.draft.stack d.stack

abbrev pub Along : Option Keeping → Option Draft → Type 0
Along None None = Unit {0}
Along (Some k) (Some d) = Goes_along k d
Along None (Some d) = ⊥
Along (Some k) None = ⊥

pub kept-more : (ts us : List TemplatePart) (t u : TemplatePart) → AreKeptOf ts us → IsKeptOf t u → AreKeptOf (ts ++ t ∷ []) (us ++ u ∷ [])
kept-more [] [] t u all one = (one, tt)
kept-more (x ∷ ts) (y ∷ us) t u all one = (all.0, kept-more ts us t u all.1 one)
kept-more [] (y ∷ us) t u all one = absurd all
kept-more (x ∷ ts) [] t u all one = absurd all

-- exactly the same stack, counted anew
stacks-by : (n : ℕ) (o : Open) (os : List Open) (e : Bool) → nat_lt n 4097 ≡ e → n ≡ stack_size (o ∷ os) → Stacks n 0 false (o ∷ os) (o ∷ os)
stacks-by n o os true is counts = inl (record { shallow = refl; few = ltb-true n 4097 is; none = refl; same = refl; counts = counts })
stacks-by n o os false is counts =
    let many : 4097 ≤ n = ltb-false n 4097 is in
    inr (inl (record { many = omega arith; inside = []; heads_are = refl; count = refl; inner = tt; kept_more = omega arith; more = omega arith }))

stacks-of : (n : ℕ) (os : List Open) → n ≡ stack_size os → Stacks (if is_none os then 0 else n) 0 (if is_none os then false else false) os os
stacks-of n [] counts = inl (record { shallow = refl; few = omega arith; none = refl; same = refl; counts = refl })
stacks-of n (o ∷ os) counts = stacks-by n o os (nat_lt n 4097) refl counts

module _ (ks : List KindPart) (ps : List PageRule) where
  abbrev pub dr : List TemplatePart → List Open → Draft
  dr ts os = record { kinds = ks; templates = ts; pages = ps; stack = os }

  counts-along : (ts us : List TemplatePart) → AreKeptOf ts us → (n : ℕ) (os : List Open) → n ≡ stack_size os → Goes_along (counted n false (dr ts os)) (dr us os)
  counts-along ts us all n os counts = record { kinds = refl; pages = refl; templates = all; stacks = stacks-of n os counts }

  -- a statement more
  put-exact : (ts us : List TemplatePart) → AreKeptOf ts us → (n : ℕ) (os : List Open) (x : Statement) (m : ℕ) → size x ≡ m → n ≡ m + stack_size os →
      Along (option_map (counted n false) (put x (dr ts os) os)) (put x (dr us os) os)
  put-exact ts us all n [] x m is counts = tt
  put-exact ts us all n (o ∷ outer) x m is counts =
      counts-along ts us all n (record { head = o.head; done = o.done ++ x ∷ [] } ∷ outer) (let e = size-more o.done x in omega arith)

  pub closed-along : (ts us : List TemplatePart) → AreKeptOf ts us → (n : ℕ) (deep : Bool) → Goes_along (counted n deep (dr ts [])) (dr us [])
  closed-along ts us all n deep = record { kinds = refl; pages = refl; templates = all; stacks = inl (record { shallow = refl; few = omega arith; none = refl; same = refl; counts = refl }) }

  close-exact : (ts us : List TemplatePart) → AreKeptOf ts us → (n : ℕ) (h : Head) (body : List Statement) (outer : List Open) →
      n ≡ head_size h + body_size body + stack_size outer →
      Along (option_map (counted n false) (close h body (dr ts outer) outer)) (close h body (dr us outer) outer)
  close-exact ts us all n (head.Template name kind) body [] counts =
      closed-along (ts ++ (record { name = name; kind = kind; body = body }) ∷ []) (us ++ (record { name = name; kind = kind; body = body }) ∷ [])
      (kept-more ts us _ _ all (refl, refl, inl refl)) n false
  close-exact ts us all n (head.Template name kind) body (o ∷ outer) counts = tt
  close-exact ts us all n (head.If f) body outer counts =
      put-exact ts us all n outer (s.If f body) (1 + body_size body) (size_If f body) counts
  close-exact ts us all n (head.Each of by order) body outer counts =
      put-exact ts us all n outer (s.Each of by order body) (1 + body_size body) (size_Each of by order body) counts
  close-exact ts us all n (head.Link name via) body outer counts =
      put-exact ts us all n outer (s.Link name via body) (1 + body_size body) (size_Link name via body) counts

  end-exact : (ts us : List TemplatePart) → AreKeptOf ts us → (n : ℕ) (os : List Open) → n ≡ stack_size os →
      Along (option_map (counted n false) (step (dr ts os) line.End)) (step (dr us os) line.End)
  end-exact ts us all n [] counts = tt
  end-exact ts us all n (o ∷ outer) counts = close-exact ts us all n o.head o.done outer counts

  open-exact : (ts us : List TemplatePart) → AreKeptOf ts us → (n : ℕ) (os : List Open) → n ≡ stack_size os → (h : Head) → head_size h ≡ 1 →
      Along (option_map (counted (n + head_size h) false) (open_statement h (dr ts os) os)) (open_statement h (dr us os) os)
  open-exact ts us all n [] counts h is = tt
  open-exact ts us all n (o ∷ outer) counts h is =
      counts-along ts us all (n + head_size h) (record { head = h; done = [] } ∷ (o ∷ outer)) (omega (arith, is, counts))

template-exact : (ks : List KindPart) (ps : List PageRule) (ts us : List TemplatePart) → AreKeptOf ts us → (n : ℕ) (os : List Open) (name : Word) (kind : Option Word) →
    n ≡ stack_size os →
    Along (option_map (counted (n + 0) false) (step (dr ks ps ts os) (line.Open (head.Template name kind)))) (step (dr ks ps us os) (line.Open (head.Template name kind)))
template-exact ks [] ts us all n [] name kind counts =
    counts-along ks [] ts us all (n + 0) (record { head = head.Template name kind; done = [] } ∷ []) (omega (arith, counts))
template-exact ks [] ts us all n (o ∷ outer) name kind counts = tt
template-exact ks (p ∷ ps) ts us all n os name kind counts = tt

kind-exact : (ks : List KindPart) (ps : List PageRule) (ts us : List TemplatePart) → AreKeptOf ts us → (n : ℕ) (os : List Open) (name : Word) (fields : List Word) →
    n ≡ stack_size os → Along (option_map (counted (n + 0) false) (step (dr ks ps ts os) (line.Kind name fields))) (step (dr ks ps us os) (line.Kind name fields))
kind-exact ks [] [] [] all n [] name fields counts =
    closed-along (ks ++ (record { name = name; fields = fields }) ∷ []) [] [] [] tt (n + 0) false
kind-exact ks [] [] [] all n (o ∷ outer) name fields counts = tt
kind-exact ks (p ∷ ps) [] [] all n os name fields counts = tt
kind-exact ks ps (t ∷ ts) (u ∷ us) all n os name fields counts = tt
kind-exact ks ps [] (u ∷ us) all n os name fields counts = absurd all
kind-exact ks ps (t ∷ ts) [] all n os name fields counts = absurd all

page-exact : (ks : List KindPart) (ps : List PageRule) (ts us : List TemplatePart) → AreKeptOf ts us → (n : ℕ) (os : List Open) (rule : PageRule) →
    n ≡ stack_size os → Along (option_map (counted (n + 0) false) (step (dr ks ps ts os) (line.Page rule))) (step (dr ks ps us os) (line.Page rule))
page-exact ks ps ts us all n [] rule counts = closed-along ks (ps ++ rule ∷ []) ts us all (n + 0) false
page-exact ks ps ts us all n (o ∷ outer) rule counts = tt

pub exact-step : (ks : List KindPart) (ps : List PageRule) (ts us : List TemplatePart) → AreKeptOf ts us → (n : ℕ) (os : List Open) → n ≡ stack_size os → (l : SiteLine) →
    Along (option_map (counted (n + begins l) false) (step (dr ks ps ts os) l)) (step (dr ks ps us os) l)
exact-step ks ps ts us all n os counts line.Blank = counts-along ks ps ts us all (n + 0) os (omega (arith, counts))
exact-step ks ps ts us all n os counts (line.Kind name fields) = kind-exact ks ps ts us all n os name fields counts
exact-step ks ps ts us all n os counts (line.Page rule) = page-exact ks ps ts us all n os rule counts
exact-step ks ps ts us all n os counts (line.Open (head.Template name kind)) = template-exact ks ps ts us all n os name kind counts
exact-step ks ps ts us all n os counts (line.Open (head.If f)) = open-exact ks ps ts us all n os counts (head.If f) refl
exact-step ks ps ts us all n os counts (line.Open (head.Each of by order)) = open-exact ks ps ts us all n os counts (head.Each of by order) refl
exact-step ks ps ts us all n os counts (line.Open (head.Link name via)) = open-exact ks ps ts us all n os counts (head.Link name via) refl
exact-step ks ps ts us all n os counts (line.Say w) = put-exact ks ps ts us all (n + 1) os (s.Say w) 1 (size_Say w) (omega (arith, counts))
exact-step ks ps ts us all n os counts line.Nl = put-exact ks ps ts us all (n + 1) os s.Nl 1 size_Nl (omega (arith, counts))
exact-step ks ps ts us all n os counts (line.Field f) = put-exact ks ps ts us all (n + 1) os (s.Field f) 1 (size_Field f) (omega (arith, counts))
exact-step ks ps ts us all n os counts line.Key = put-exact ks ps ts us all (n + 1) os s.Key 1 size_Key (omega (arith, counts))
exact-step ks ps ts us all n os counts (line.Embed name via) = put-exact ks ps ts us all (n + 1) os (s.Embed name via) 1 (size_Embed name via) (omega (arith, counts))
exact-step ks ps ts us all n os counts line.End = end-exact ks ps ts us all (n + 0) os (omega (arith, counts))
