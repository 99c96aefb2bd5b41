-- A list whose elements rise is in order as it stands.
use Rattle.std.proofs.Common.{◌≡◌, ℕ, refl, sym, ap, ◌∙◌, List, [], ◌∷◌, ◌++◌, map}
use Rattle.std.specs.Ordering.{nat_cmp}
use Rattle.std.specs.declared.cmp.Ordering.{Ordering}
use Rattle.std.specs.declared.cmp.Ordering.TheVariants.{Less, Equal}
use Rattle.std.specs.Cmp.{nat_cmp_is}
use Rattle.dup_names.specs.Order.{text_cmp}
use Rattle.dup_names.specs.Words.{Word, in_order, put, put_at}
use Rattle.dup_model.specs.Content.{Table}
use Rattle.dup_model.specs.Tables.{IsRising}

abbrev pub Rises : {X : Type 0} → (X → X → Ordering) → List X → Type 0
Rises cmp [] = Unit {0}
Rises cmp (x ∷ []) = Unit {0}
Rises cmp (x ∷ y ∷ ys) = (cmp x y ≡ Less) × Rises cmp (y ∷ ys)

pub in_order_rising : {X : Type 0} (cmp : X → X → Ordering) (xs : List X) → Rises cmp xs → in_order cmp xs ≡ xs
in_order_rising cmp [] h = refl
in_order_rising cmp (x ∷ []) h = refl
in_order_rising cmp (x ∷ y ∷ ys) h = ap (put cmp x) (in_order_rising cmp (y ∷ ys) h.1) ∙ ap (λ (o : Ordering). put_at o x y ys (put cmp x ys)) h.0

-- what is made of rising keys by a map that keeps their order
pub rises_map : {X : Type 0} (cmp : X → X → Ordering) (f : Word → X) → ((a b : Word) → cmp (f a) (f b) ≡ text_cmp a b) → (rows : Table) → IsRising rows
    → Rises cmp (map f (map (λ e. e.0) rows))
rises_map cmp f same [] h = tt
rises_map cmp f same (e ∷ []) h = tt
rises_map cmp f same (e ∷ d ∷ es) h = (same e.0 d.0 ∙ h.0.0, rises_map cmp f same (d ∷ es) h.1)

nat_same : (n : ℕ) → nat_cmp n n ≡ Equal
nat_same n = sym (nat_cmp_is n n Equal refl)

-- a common front says nothing
pub text_cmp_front : (p a b : Word) → text_cmp (p ++ a) (p ++ b) ≡ text_cmp a b
text_cmp_front [] a b = refl
text_cmp_front (x ∷ p) a b = rw (nat_same x) (text_cmp_front p a b)
