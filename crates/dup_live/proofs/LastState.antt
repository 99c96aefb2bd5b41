-- What was appended last stands alone.
use Rattle.std.proofs.Common.{◌≡◌, List, [], ◌∷◌, ◌++◌, fold, refl, subst, sym}
use Rattle.dup_live.specs.declared.shown.State.{State}
use Rattle.dup_live.specs.Last.{last_state}

pub last_state-fold : (s : State) (xs : List State) → fold (λ (before : State) (next : State). next) s xs ≡ last_state s xs
last_state-fold s [] = refl
last_state-fold s (x ∷ xs) = last_state-fold x xs

last_state-snoc : (s : State) (xs : List State) (y : State) → last_state s (xs ++ y ∷ []) ≡ y
last_state-snoc s [] y = refl
last_state-snoc s (x ∷ xs) y = last_state-snoc x xs y

pub last_state_after : (s : State) (all xs : List State) (y : State) → all ≡ xs ++ y ∷ [] → last_state s all ≡ y
last_state_after s all xs y e = subst (λ (z : List State). last_state s z ≡ y) (sym e) (last_state-snoc s xs y)
