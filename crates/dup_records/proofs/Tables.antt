-- Tables behind their owners, with one of them replaced.
use Rattle.std.proofs.Common.{◌≡◌, ℕ, zero, suc, List, [], ◌∷◌, length, map, refl, ap, subst, sym, ◌∙◌}
use Rattle.std.proofs.lemmas.List.{length-map}
use Rattle.std.specs.Prelude.{slice_set, replicate}
use Rattle.std.specs.List.{AllByRecursion}
use Rattle.dup_model.specs.Content.{Table}
use Rattle.dup_model.specs.Tables.{IsRising}
use Rattle.dup_model.proofs.Tables.{rising_set}

pub map_set : {A B : Type 0} (f : A → B) (xs : List A) (i : ℕ) (v : A) → map f (slice_set xs i v) ≡ slice_set (map f xs) i (f v)
map_set f [] i v = refl
map_set f (x ∷ xs) zero v = refl
map_set f (x ∷ xs) (suc i) v = ap (λ l. f x ∷ l) (map_set f xs i v)

pub replaced : {A : Type 0} (value : A → Table) (made old : List A) (i : ℕ) (v : A) (rows : Table)
    → map value made ≡ map value old → value v ≡ rows → map value (slice_set made i v) ≡ slice_set (map value old) i rows
replaced value made old i v rows same is = map_set value made i v ∙ (ap (λ l. slice_set l i (value v)) same ∙ ap (slice_set (map value old) i) is)

pub still_rising : {A : Type 0} (value : A → Table) (made old : List A) (i : ℕ) (v : A) (rows : Table)
    → map value made ≡ map value old → value v ≡ rows → AllByRecursion IsRising (map value old) → IsRising rows
    → AllByRecursion IsRising (map value (slice_set made i v))
still_rising value made old i v rows same is all rises =
    subst (AllByRecursion IsRising) (sym (replaced value made old i v rows same is)) (rising_set (map value old) i rows all rises)

pub as_many : {A : Type 0} (value : A → Table) (made old : List A) → map value made ≡ map value old → length made ≡ length old
as_many value made old same = simp length-map at (ap length same)

-- no rows for each kind
pub blanks : {K : Type 0} (kinds : List K) → let none : Table = [] in replicate (length kinds) none ≡ map (λ k. none) kinds
blanks [] = refl
blanks (k ∷ ks) = let none : Table = [] in ap (λ l. none ∷ l) (blanks ks)
