-- Words behind words.
use Rattle.dup_names.specs.Words.{Word}
use Rattle.std.proofs.Common.{◌≡◌, ℕ, List, [], ◌∷◌, ◌++◌, refl, ap, sym, ◌∙◌, append-nil, append_assoc}
use Rattle.std.specs.List.{flat_map}
use Rattle.dup_names.specs.LineWords.{spaced}

pub spaced_cons : (w : Word) (ws : List Word) → spaced (w ∷ ws) ≡ w ++ flat_map (λ v. 32 ∷ v) ws
spaced_cons w [] = sym (append-nil w)
spaced_cons w (v ∷ ws) = ap (λ xs. w ++ 32 ∷ xs) (spaced_cons v ws)

pub spaced_listed : (out kw name : List ℕ) (names : List Word) →
    (((out ++ kw) ++ 32 ∷ name) ++ flat_map (λ v. 32 ∷ v) names) ++ 10 ∷ [] ≡ out ++ (spaced (kw ∷ name ∷ names) ++ 10 ∷ [])
spaced_listed out kw name names =
    let words : spaced (kw ∷ name ∷ names) ≡ kw ++ 32 ∷ (name ++ flat_map (λ v. 32 ∷ v) names) = spaced_cons kw (name ∷ names) in
    simp append_assoc refl ∙ ap (λ xs. out ++ (xs ++ 10 ∷ [])) (sym words)
