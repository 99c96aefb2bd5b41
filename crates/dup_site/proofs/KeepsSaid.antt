-- What is kept after a line, and after the last.
use Rattle.std.proofs.Common.{◌≡◌, ℕ, ◌+◌, inl, inr, List, [], ◌∷◌, ◌++◌, map, length, refl, ap, sym, subst, ◌∙◌, arith}
use Rattle.std.proofs.lemmas.Bool.{eqb-true}
use Rattle.std.specs.Prelude.{Bool, true, false, nat_eq, Option, Some, None, Result, Ok, Err}
use Rattle.dup_names.specs.declared.no_memory.NoMemory.{NoMemory}
use Rattle.dup_template.specs.declared.site.Parts.{Parts}
use Rattle.dup_site.specs.declared.site_line.SiteLine.{SiteLine}
use Rattle.dup_template.specs.declared.refusal.SiteTextRefusal.{SiteTextRefusal}
use Rattle.dup_template.specs.declared.refusal.SiteTextRefusal.TheVariants.{BadLine, Check, NoMemory as Wants}
use Rattle.dup_site.specs.Draft.{Draft, Open, blank, parts_of, step_at, said_from, finished, onward}
use Rattle.dup_site.specs.Drafted.{Goes}
use Rattle.dup_site.specs.KeptStatements.{Keeping, IsKept, Keeps, keep_at}
use Rattle.dup_site.specs.Reads.{Says}
use Rattle.dup_site.specs.Spelling.{line_of}
use Rattle.dup_names.specs.Lines.{text_lines}
use Rattle.dup_site.proofs.GoesAlong.{Over, Stacks, Goes_along, Along}
use Rattle.dup_site.proofs.KeepGoesAlong.{keep-along}

-- what is kept so far goes along with a draft whose lines to come say the rest
pub record Reading_on (said : Result Parts ℕ) (n : ℕ) (k : Keeping) (ls : List (Option SiteLine)) : Type 0 where
  pub draft : Draft
  pub along : Goes_along k draft
  pub says : said_from n draft ls ≡ said

pub start : (ls : List (Option SiteLine)) (k : Keeping) → k ≡ record { draft = blank; begun = 0; passed = 0; deep = false } → Reading_on (said_from 1 blank ls) 1 k ls
start ls k is =
    subst (λ (x : Keeping). Reading_on (said_from 1 blank ls) 1 x ls) (sym is)
    (record { draft = blank; says = refl; along = record { kinds = refl; pages = refl; templates = tt; stacks = inl (record { shallow = refl; few = omega arith; none = refl; same = refl; counts = refl }) } })

at-along : (k : Keeping) (d : Draft) → Goes_along k d → (l : Option SiteLine) → Along (keep_at k l) (step_at d l)
at-along k d g None = tt
at-along k d g (Some l) = keep-along k d g l

next-by : (said : Result Parts ℕ) (n : ℕ) (k : Keeping) (x : Option Keeping) (y : Option Draft) (ls : List (Option SiteLine)) → Along x y → x ≡ Some k →
    onward n y (λ e. said_from (n + 1) e ls) ≡ said → Reading_on said (n + 1) k ls
next-by said n k (Some j) (Some d) ls g is says =
    let same : j ≡ k = cc in
    record { draft = d; along = subst (λ (z : Keeping). Goes_along z d) same g; says = says }
next-by said n k None None ls g is says = cc
next-by said n k (Some j) None ls g is says = absurd g
next-by said n k None (Some d) ls g is says = cc

-- a line that may stand there
pub next : (said : Result Parts ℕ) (n : ℕ) (k j : Keeping) (l : Option SiteLine) (ls all : List (Option SiteLine)) → all ≡ l ∷ ls → Reading_on said n k all →
    keep_at k l ≡ Some j → Reading_on said (n + 1) j ls
next said n k j l ls all cut r is =
    next-by said n j (keep_at k l) (step_at r.draft l) ls (at-along k r.draft r.along l) is
    (ap (said_from n r.draft) (sym cut) ∙ r.says)

bad-by : (n : ℕ) (x : Option Keeping) (y : Option Draft) (ls : List (Option SiteLine)) → Along x y → x ≡ None →
    onward n y (λ e. said_from (n + 1) e ls) ≡ Err n
bad-by n None None ls g is = refl
bad-by n (Some j) y ls g is = cc
bad-by n None (Some d) ls g is = absurd g

-- a line that may not
pub bad : (said : Result Parts ℕ) (n : ℕ) (k : Keeping) (l : Option SiteLine) (ls all : List (Option SiteLine)) → all ≡ l ∷ ls → Reading_on said n k all →
    keep_at k l ≡ None → said ≡ Err n
bad said n k l ls all cut r is =
    sym r.says ∙ ap (said_from n r.draft) cut ∙ bad-by n (keep_at k l) (step_at r.draft l) ls (at-along k r.draft r.along l) is

kept-parts : (k : Keeping) (d : Draft) → Goes_along k d → IsKept (parts_of k.draft) (parts_of d)
kept-parts k d g = record { kinds = g.kinds; pages = g.pages; templates = g.templates }

-- what ends a kept draft ends the draft
abbrev Ends : ℕ → Keeping → Draft → List Open → List Open → Type 0
Ends n k d os bs = (r : Result Parts SiteTextRefusal) → Says r (finished n k.draft os) → Keeps r (finished n d bs)

ends-none : (n : ℕ) (k : Keeping) (d : Draft) → Goes_along k d → Ends n k d [] []
ends-none n k d g (Ok parts) says =
    let same : parts_of k.draft ≡ parts = cc in
    (parts_of d, refl, subst (λ (p : Parts). IsKept p (parts_of d)) same (kept-parts k d g))
ends-none n k d g (Err (BadLine m)) says = cc
ends-none n k d g (Err (Check e)) says = absurd says
ends-none n k d g (Err Wants) says = tt

ends-some : (n : ℕ) (k : Keeping) (d : Draft) (o p : Open) (os bs : List Open) → Ends n k d (o ∷ os) (p ∷ bs)
ends-some n k d o p os bs (Ok parts) says = cc
ends-some n k d o p os bs (Err (BadLine m)) says = says
ends-some n k d o p os bs (Err (Check e)) says = absurd says
ends-some n k d o p os bs (Err Wants) says = tt

ends-over : (n m passed : ℕ) (k : Keeping) (d : Draft) (os bs : List Open) → Over m passed os bs → Ends n k d os bs
ends-over n m passed k d [] bs o = absurd (let e = o.kept_more in omega arith)
ends-over n m passed k d (p ∷ os) [] o = absurd (let e = o.more in omega arith)
ends-over n m passed k d (p ∷ os) (q ∷ bs) o = ends-some n k d p q os bs

ends-inside : (n : ℕ) (k : Keeping) (d : Draft) (o p : Open) (os inside : List Open) → Ends n k d (o ∷ os) (inside ++ p ∷ os)
ends-inside n k d o p os [] = ends-some n k d o p os os
ends-inside n k d o p os (x ∷ xs) = ends-some n k d o x os (xs ++ p ∷ os)

ends-same : (n : ℕ) (k : Keeping) (d : Draft) → Goes_along k d → (os : List Open) → Ends n k d os os
ends-same n k d g [] = ends-none n k d g
ends-same n k d g (o ∷ os) = ends-some n k d o o os os

ends-by : (n : ℕ) (k : Keeping) (d : Draft) → Goes_along k d → Stacks k.begun k.passed k.deep k.draft.stack d.stack →
    Ends n k d k.draft.stack d.stack
ends-by n k d g (inl x) = subst (λ (os : List Open). Ends n k d os d.stack) (sym x.same) (ends-same n k d g d.stack)
ends-by n k d g (inr (inl o)) = ends-over n k.begun k.passed k d k.draft.stack d.stack o
ends-by n k d g (inr (inr s)) =
    subst (λ (os : List Open). Ends n k d os d.stack) (sym s.2.ks_are) (subst (λ (bs : List Open). Ends n k d (s.2.top ∷ s.2.outer) bs) (sym s.2.ds_are) (ends-inside n k d s.2.top s.2.below s.2.outer s.2.inside))

-- after the last line
pub ends : (said : Result Parts ℕ) (n : ℕ) (k : Keeping) (all : List (Option SiteLine)) → all ≡ [] → Reading_on said n k all →
    (r : Result Parts SiteTextRefusal) → Says r (finished n k.draft k.draft.stack) → Keeps r said
ends said n k all none x r says =
    subst (λ (s : Result Parts ℕ). Keeps r s) (ap (said_from n x.draft) (sym none) ∙ x.says) (ends-by n k x.draft x.along x.along.stacks r says)

pub stands : {S : Type 0} (b : Bool) (new : S) (x : Option S) → Goes {E = NoMemory} (Ok b) new x → b ≡ true → x ≡ Some new
stands true new x goes is = goes
stands false new x goes is = cc

pub stands_not : {S : Type 0} (b : Bool) (new : S) (x : Option S) → Goes {E = NoMemory} (Ok b) new x → b ≡ false → x ≡ None
stands_not true new x goes is = cc
stands_not false new x goes is = goes

pub no_lines : (rest : List ℕ) → true ≡ nat_eq (length rest) 0 → map line_of (text_lines rest) ≡ []
no_lines [] is = refl
no_lines (b ∷ bs) is = absurd (let e : length (b ∷ bs) ≡ 0 = eqb-true (length (b ∷ bs)) 0 (sym is) in omega arith)
