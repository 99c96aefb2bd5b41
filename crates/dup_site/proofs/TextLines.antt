-- Lines that are texts, one after another.
use Rattle.std.proofs.Common.{◌≡◌, List, [], ◌∷◌, ◌++◌, ap, sym, subst, ◌∙◌, append_assoc}
use Rattle.std.specs.List.{AllByRecursion}
use Rattle.dup_names.specs.Words.{Word}
use Rattle.dup_site.specs.SaidBody.{is_text}

-- one text more was made
pub texts_more : (made more ls rest all : List Word) (w : Word) → ls ≡ w ∷ rest → more ≡ made ++ w ∷ [] → made ++ ls ≡ all → more ++ rest ≡ all
texts_more made more ls rest all w starts pushed is =
    ap (λ xs. xs ++ rest) pushed ∙ append_assoc made (w ∷ []) rest ∙ ap (λ xs. made ++ xs) (sym starts) ∙ is

pub first_text : (ls rest : List Word) (w : Word) → ls ≡ w ∷ rest → AllByRecursion is_text ls → is_text w × AllByRecursion is_text rest
first_text ls rest w starts all = subst (λ (xs : List Word). AllByRecursion is_text xs) starts all
