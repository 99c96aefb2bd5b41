-- The innermost last, and first.
use Rattle.std.proofs.Common.{◌≡◌, ℕ, zero, suc, ◌<◌, ◌-◌, List, [], ◌∷◌, ◌++◌, length, refl, ap, arith, ◌∙◌}
use Rattle.std.specs.Prelude.{true, false, option_map, Some, None}
use Rattle.dup_site.specs.declared.draft.Open.{Open as Frame}
use Rattle.dup_site.specs.Draft.{Open, is_none, step}
use Rattle.dup_site.specs.KeptStatements.{Keeping, pass_end, passing, counted}
use Rattle.dup_site.specs.declared.site_line.SiteLine.TheVariants.{End}
use Rattle.dup_site.specs.Drafted.{outward, seen_open}
use Rattle.dup_site.specs.SaidBody.{of_one}

pub outward_last : (os : List Frame) (o : Frame) → outward (os ++ o ∷ []) ≡ seen_open o ∷ outward os
outward_last [] o = refl
outward_last (x ∷ os) o = ap (λ ys. ys ++ seen_open x ∷ []) (outward_last os o)

is_none-more : (os : List Open) (o : Open) → is_none (os ++ o ∷ []) ≡ false
is_none-more [] o = refl
is_none-more (x ∷ os) o = refl

pub outward_none : (os : List Frame) → length os ≡ 0 → is_none (outward os) ≡ true
outward_none [] none = refl
outward_none (o ∷ os) none = absurd (omega arith)

pub outward_some : (os : List Frame) → 0 < length os → is_none (outward os) ≡ false
outward_some [] some = absurd (omega arith)
outward_some (o ∷ os) some = is_none-more (outward os) (seen_open o)

pub pass_end_some : (k : Keeping) (n : ℕ) → 0 < n → pass_end k n ≡ passing k (n - 1)
pass_end_some k zero h = absurd (omega arith)
pass_end_some k (suc n) h = let e : n ≡ suc n - 1 = omega arith in ap (passing k) e

pub pass_end_none : (k : Keeping) (n : ℕ) → n ≡ 0 → pass_end k n ≡ option_map (counted k.begun k.deep) (step k.draft End)
pass_end_none k zero h = refl
pass_end_none k (suc n) h = absurd (omega arith)

length-more : (os : List Open) (o : Open) → length (os ++ o ∷ []) ≡ suc (length os)
length-more [] o = refl
length-more (x ∷ os) o = ap suc (length-more os o)

pub outward_length : (os : List Frame) → length (outward os) ≡ length os
outward_length [] = refl
outward_length (o ∷ os) = length-more (outward os) (seen_open o) ∙ ap suc (outward_length os)

none-behind : (o p : Open) (os : List Open) → of_one (o ∷ (os ++ p ∷ [])) ≡ None
none-behind o p [] = refl
none-behind o p (x ∷ os) = refl

pub one_open : (os : List Frame) (o : Frame) → length os ≡ 0 → of_one (outward (os ++ o ∷ [])) ≡ Some o.done.items
one_open [] o none = refl
one_open (x ∷ os) o none = absurd (omega arith)

pub more_open : (os : List Frame) (o : Frame) → 0 < length os → of_one (outward (os ++ o ∷ [])) ≡ None
more_open [] o some = absurd (omega arith)
more_open (x ∷ os) o some = ap of_one (outward_last (x ∷ os) o) ∙ none-behind (seen_open o) (seen_open x) (outward os)
