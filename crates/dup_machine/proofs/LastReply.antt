-- A list of replies has one last reply.
use Rattle.std.proofs.Common.{◌≡◌, List, [], ◌∷◌, ◌++◌, refl, sym, ap, ◌∙◌}
use Rattle.dup_machine.specs.World.{Told, World}
use Rattle.dup_machine.specs.Until.{LastTold}

last_or : {A : Type 0} → A → List A → A
last_or d [] = d
last_or d (x ∷ xs) = last_or x xs

last_snoc : {A : Type 0} (d : A) (xs : List A) (x : A) → last_or d (xs ++ x ∷ []) ≡ x
unfolding last_or
last_snoc d [] x = refl
last_snoc d (y ∷ xs) x = last_snoc y xs x

pub told_once : (w : World) (a b : Told) → LastTold w a → LastTold w b → a ≡ b
told_once w a b h k = sym (last_snoc a h.0 a) ∙ ap (last_or a) (sym h.1 ∙ k.1) ∙ last_snoc a k.0 b
