-- What a collected level is, of looks that may each be refused.
use Rattle.std.proofs.Common.{◌≡◌, List, [], ◌∷◌, map, Result, Ok, Err, IfOk, MatchResult, subst, refl}
use Rattle.std.specs.List.{AllZip}

pub oks : {J V : Type 0} (E : Type 0) (R : J → V → Type 0) (jobs : List J) (ys : List V) → AllZip (λ j (r : Result V E). IfOk r (R j)) jobs (map (λ (y : V). Ok y) ys) → AllZip R jobs ys
oks E R [] [] h = h
oks E R [] (y ∷ ys) h = h
oks E R (j ∷ js) [] h = h
oks E R (j ∷ js) (y ∷ ys) h = (h.0, oks E R js ys h.1)

pub ok_then : {T E : Type 0} (r : Result T E) (P R : T → Type 0) (Q : E → Type 0) → MatchResult r P Q → ((v : T) → P v → R v) → IfOk r R
ok_then (Ok v) P R Q h f = f v h
ok_then (Err e) P R Q h f = tt

-- each is what a function gives
pub all_same : {J V : Type 0} (f : J → V) (jobs : List J) (ys : List V) → AllZip (λ j y. y ≡ f j) jobs ys → ys ≡ map f jobs
all_same f [] [] h = refl
all_same f [] (y ∷ ys) h = absurd h
all_same f (j ∷ js) [] h = absurd h
all_same f (j ∷ js) (y ∷ ys) h = λ i. h.0 i ∷ all_same f js ys h.1 i
