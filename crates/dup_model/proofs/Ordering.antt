-- What is in a list is in it once it is in order, and the other way round.
use Rattle.std.proofs.Common.{◌≡◌, Bool, true, false, ◌||◌, List, [], ◌∷◌, ◌++◌, map, refl, ap, ◌∙◌}
use Rattle.std.specs.List.{list_any, flat_map, AllByRecursion}
use Rattle.std.specs.declared.cmp.Ordering.{Ordering}
use Rattle.std.specs.declared.cmp.Ordering.TheVariants.{Less, Equal, Greater}
use Rattle.dup_names.specs.Words.{put, put_at, in_order}

-- a test that doesn't tell tied elements apart passes on x or on one of ys exactly where it passes on one of these in order
module _ {X : Type 0} (cmp : X → X → Ordering) (f : X → Bool) (alike : (x y : X) → cmp x y ≡ Equal → f x ≡ f y) where
  any_put_at : (r : Ordering) (x y : X) → cmp x y ≡ r → (ys rest : List X) → list_any f rest ≡ (f x || list_any f ys) → list_any f (put_at r x y ys rest) ≡ (f x || (f y || list_any f ys))
  any_put_at Less x y is ys rest more = refl
  any_put_at Equal x y is ys rest more = rw (alike x y is) (twice (f y) (list_any f ys))
    where
      twice : (a b : Bool) → (a || b) ≡ (a || (a || b))
      twice true b = refl
      twice false b = refl
  any_put_at Greater x y is ys rest more = rw more (turn (f y) (f x) (list_any f ys))
    where
      turn : (a b d : Bool) → (a || (b || d)) ≡ (b || (a || d))
      turn true true d = refl
      turn true false d = refl
      turn false b d = refl

  any_put : (x : X) (ys : List X) → list_any f (put cmp x ys) ≡ (f x || list_any f ys)
  any_put x [] = refl
  any_put x (y ∷ ys) = any_put_at (cmp x y) x y refl ys (put cmp x ys) (any_put x ys)

  pub any_in_order : (xs : List X) → list_any f (in_order cmp xs) ≡ list_any f xs
  any_in_order [] = refl
  any_in_order (x ∷ xs) = any_put x (in_order cmp xs) ∙ ap (λ b. f x || b) (any_in_order xs)

pub any_append : {X : Type 0} (f : X → Bool) (xs ys : List X) → list_any f (xs ++ ys) ≡ (list_any f xs || list_any f ys)
any_append f [] ys = refl
any_append f (x ∷ xs) ys = rw (any_append f xs ys) (or_assoc (f x) (list_any f xs) (list_any f ys))
  where
    or_assoc : (a b c : Bool) → (a || (b || c)) ≡ ((a || b) || c)
    or_assoc true b c = refl
    or_assoc false b c = refl

pub any_flat : {X Y : Type 0} (f : Y → Bool) (g : X → List Y) (xs : List X) → list_any f (flat_map g xs) ≡ list_any (λ x. list_any f (g x)) xs
any_flat f g [] = refl
any_flat f g (x ∷ xs) = any_append f (g x) (flat_map g xs) ∙ ap (λ b. list_any f (g x) || b) (any_flat f g xs)

pub any_map : {X Y : Type 0} (f : Y → Bool) (g : X → Y) (xs : List X) → list_any f (map g xs) ≡ list_any (λ x. f (g x)) xs
any_map f g [] = refl
any_map f g (x ∷ xs) = ap (λ b. f (g x) || b) (any_map f g xs)

-- what holds of all elements holds of them in order
pub all_in_order : {X : Type 0} (cmp : X → X → Ordering) (P : X → Type 0) (xs : List X) → AllByRecursion P xs → AllByRecursion P (in_order cmp xs)
all_in_order {X} cmp P [] h = tt
all_in_order {X} cmp P (x ∷ xs) h = all_put x (in_order cmp xs) h.0 (all_in_order cmp P xs h.1)
  where
    all_put_at : (r : Ordering) (x y : X) (ys rest : List X) → P x → P y → AllByRecursion P ys → AllByRecursion P rest → AllByRecursion P (put_at r x y ys rest)
    all_put_at Less x y ys rest h k all more = (h, (k, all))
    all_put_at Equal x y ys rest h k all more = (k, all)
    all_put_at Greater x y ys rest h k all more = (k, more)

    all_put : (x : X) (ys : List X) → P x → AllByRecursion P ys → AllByRecursion P (put cmp x ys)
    all_put x [] h all = (h, tt)
    all_put x (y ∷ ys) h all = all_put_at (cmp x y) x y ys (put cmp x ys) h all.0 all.1 (all_put x ys h all.1)
