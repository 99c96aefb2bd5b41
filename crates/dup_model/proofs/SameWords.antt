-- Two words are the same whichever comes first.
use Rattle.std.proofs.Common.{◌≡◌, ℕ, Bool, ◌&&◌, refl, ap, ◌∙◌, [], ◌∷◌, arith}
use Rattle.std.specs.Prelude.{bytes_eq, nat_eq}
use Rattle.std.proofs.lemmas.Bool.Decides.{nat_tests}
use Rattle.dup_names.specs.Words.{Word, same}

nat_back : (m n : ℕ) → nat_eq m n ≡ nat_eq n m
nat_back m n = grind (arith, nat_tests)

pub same_back : (x y : Word) → bytes_eq x y ≡ same y x
same_back [] [] = refl
same_back [] (y ∷ ys) = refl
same_back (x ∷ xs) [] = refl
same_back (x ∷ xs) (y ∷ ys) = ap (λ (v : Bool). v && bytes_eq xs ys) (nat_back x y) ∙ ap (λ (v : Bool). nat_eq y x && v) (same_back xs ys)
