-- A list that is cut in two by a test that its first elements pass.
use Rattle.std.specs.Prelude.{◌≡◌, Bool, true, false, List, [], ◌∷◌, if◌then◌else◌}
use Rattle.std.specs.List.{AllByRecursion}
use Rattle.std.specs.declared.cmp.Ordering.{Ordering}
use Rattle.std.specs.declared.cmp.Ordering.TheVariants.{Less}

-- the elements before the first that fails, and the others
abbrev pub front : {X : Type 0} → (X → Bool) → List X → List X
front p [] = []
front p (x ∷ xs) = if p x then x ∷ front p xs else []

abbrev pub back : {X : Type 0} → (X → Bool) → List X → List X
back p [] = []
back p (x ∷ xs) = if p x then back p xs else (x ∷ xs)

-- behind an element that fails, all fail
abbrev pub Falls : {X : Type 0} → (X → Bool) → List X → Type 0
Falls p [] = Unit {0}
Falls p (x ∷ xs) = (p x ≡ false → AllByRecursion (λ y. p y ≡ false) xs) × Falls p xs

-- whether there is a first element that passes
abbrev pub first_passes : {X : Type 0} → (X → Bool) → List X → Bool
first_passes p [] = false
first_passes p (x ∷ xs) = p x

-- the keys rise strictly
abbrev pub Rises : {X K : Type 0} → (X → K) → (K → K → Ordering) → List X → Type 0
Rises k cmp [] = Unit {0}
Rises k cmp (x ∷ xs) = AllByRecursion (λ y. cmp (k x) (k y) ≡ Less) xs × Rises k cmp xs
