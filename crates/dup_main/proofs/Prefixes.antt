-- The first bytes of a text behind what was written, and of a longer text.
use Rattle.std.proofs.Common.{◌≡◌, ℕ, ◌+◌, ◌≤◌, refl, sym, ap, ◌∙◌, subst, List, [], ◌∷◌, ◌++◌, length, length-append, take, arith, zero, suc}
use Rattle.std.specs.Prelude.{Option}
use Rattle.std.specs.Io.KnownBytes.{Appends}
use Rattle.std.proofs.KnownBytes.{Appends-trans}
use Rattle.dup_io.specs.Causes.{AppendsPrefix}

-- the front of two texts together
take_front : (xs ys : List ℕ) (n : ℕ) → n ≤ length xs → take n (xs ++ ys) ≡ take n xs
take_front xs ys zero short = refl
take_front [] ys (suc n) short = absurd (omega (arith, short))
take_front (x ∷ xs) ys (suc n) short = ap (λ (l : List ℕ). x ∷ l) (take_front xs ys n (omega (arith, short)))

take_past : (xs ys : List ℕ) (n : ℕ) → take (length xs + n) (xs ++ ys) ≡ xs ++ take n ys
take_past [] ys n = ap (λ (k : ℕ). take k ys) (let h : 0 + n ≡ n = omega arith in h)
take_past (x ∷ xs) ys n =
    let h : length (x ∷ xs) + n ≡ suc (length xs + n) = omega arith in
    ap (λ (k : ℕ). take k (x ∷ (xs ++ ys))) h ∙ ap (λ (l : List ℕ). x ∷ l) (take_past xs ys n)

-- a part of a text is a part of a longer one
pub prefix_longer : (old new : Option (List ℕ)) (xs ys : List ℕ) → AppendsPrefix old new xs → AppendsPrefix old new (xs ++ ys)
prefix_longer old new xs ys part = (
  part.0,
  let h : length (xs ++ ys) ≡ length xs + length ys = length-append xs ys in
      let short : part.0 ≤ length xs = part.1 in
      omega (arith, h, short),
  subst (Appends old new) (sym (take_front xs ys part.0 part.1)) part.2,
)

-- a part behind what was written
pub prefix_behind : (old mid new : Option (List ℕ)) (xs ys : List ℕ) → Appends old mid xs → AppendsPrefix mid new ys → AppendsPrefix old new (xs ++ ys)
prefix_behind old mid new xs ys first part = (
  length xs + part.0,
  let h : length (xs ++ ys) ≡ length xs + length ys = length-append xs ys in
      let short : part.0 ≤ length ys = part.1 in
      omega (arith, h, short),
  subst (Appends old new) (sym (take_past xs ys part.0)) (Appends-trans old mid new _ _ first part.2),
)

-- all of it is a part of it
pub prefix_whole : (old new : Option (List ℕ)) (xs : List ℕ) → Appends old new xs → AppendsPrefix old new xs
prefix_whole old new xs all = (length xs, let h : length xs ≤ length xs = omega arith in h, subst (Appends old new) (sym (take_all xs)) all)
  where
    take_all : (l : List ℕ) → take (length l) l ≡ l
    take_all [] = refl
    take_all (x ∷ l) = ap (λ (m : List ℕ). x ∷ m) (take_all l)
