-- Where a test cuts a list that falls.
use Rattle.std.proofs.Common.{◌≡◌, ℕ, zero, suc, ◌+◌, ◌-◌, ◌*◌, ◌/◌, ◌^◌, ◌≤◌, ◌<◌, Bool, true, false, cond, List, [], ◌∷◌, ◌++◌, length, take, drop, refl, sym, ap, subst, ◌∙◌, arith}
use Rattle.std.specs.List.{AllByRecursion}
use Rattle.std.proofs.lemmas.List.{take-append-drop, append_assoc, length-append, length-take, length-drop}
use Rattle.std.proofs.lemmas.Bool.{true≢false}
use Rattle.std.proofs.Math.Nat.{pow-suc}
use Rattle.dup_chunks.specs.Cut.{front, back, Falls, first_passes}

-- a list falls in its parts
pub falls_right : {X : Type 0} (p : X → Bool) (xs ys : List X) → Falls p (xs ++ ys) → Falls p ys
falls_right p [] ys h = h
falls_right p (x ∷ xs) ys h = falls_right p xs ys h.1

all_left : {X : Type 0} (P : X → Type 0) (xs ys : List X) → AllByRecursion P (xs ++ ys) → AllByRecursion P xs
all_left P [] ys all = tt
all_left P (x ∷ xs) ys all = (all.0, all_left P xs ys all.1)

pub all_right : {X : Type 0} (P : X → Type 0) (xs ys : List X) → AllByRecursion P (xs ++ ys) → AllByRecursion P ys
all_right P [] ys all = all
all_right P (x ∷ xs) ys all = all_right P xs ys all.1

pub falls_left : {X : Type 0} (p : X → Bool) (xs ys : List X) → Falls p (xs ++ ys) → Falls p xs
falls_left p [] ys h = tt
falls_left p (x ∷ xs) ys h = (λ e. all_left (λ y. p y ≡ false) xs ys (h.0 e), falls_left p xs ys h.1)

pub falls_take : {X : Type 0} (p : X → Bool) (i : ℕ) (xs : List X) → Falls p xs → Falls p (take i xs)
falls_take p i xs h = falls_left p (take i xs) (drop i xs) (subst (Falls p) (sym (take-append-drop i xs)) h)

pub falls_drop : {X : Type 0} (p : X → Bool) (i : ℕ) (xs : List X) → Falls p xs → Falls p (drop i xs)
falls_drop p i xs h = falls_right p (take i xs) (drop i xs) (subst (Falls p) (sym (take-append-drop i xs)) h)

-- all fail where the first fails
pub all_fail : {X : Type 0} (p : X → Bool) (xs : List X) → Falls p xs → first_passes p xs ≡ false → AllByRecursion (λ y. p y ≡ false) xs
all_fail p [] h is = tt
all_fail p (x ∷ xs) h is = (is, h.0 is)

pub front_none : {X : Type 0} (p : X → Bool) (xs : List X) → AllByRecursion (λ y. p y ≡ false) xs → front p xs ≡ []
front_none p [] all = refl
front_none p (x ∷ xs) all = ap (λ b. cond b (x ∷ front p xs) []) all.0

pub back_all : {X : Type 0} (p : X → Bool) (xs : List X) → AllByRecursion (λ y. p y ≡ false) xs → back p xs ≡ xs
back_all p [] all = refl
back_all p (x ∷ xs) all = ap (λ b. cond b (back p xs) (x ∷ xs)) all.0

-- not all behind one fail where the first of these passes
not_all : {X : Type 0} (p : X → Bool) (xs ys : List X) → first_passes p ys ≡ true → AllByRecursion (λ y. p y ≡ false) (xs ++ ys) → ⊥
not_all p xs [] is all = true≢false (sym is)
not_all p xs (y ∷ ys) is all = true≢false (sym is ∙ (all_right (λ z. p z ≡ false) xs (y ∷ ys) all).0)

-- what stands before one that passes is in front
pub front_over : {X : Type 0} (p : X → Bool) (xs ys : List X) → Falls p (xs ++ ys) → first_passes p ys ≡ true → front p (xs ++ ys) ≡ xs ++ front p ys
front_over p [] ys h is = refl
front_over p (x ∷ xs) ys h is = by_test (p x) refl (front_over p xs ys h.1 is) (λ e. not_all p xs ys is (h.0 e))
  where
    by_test : (b : Bool) → p x ≡ b → front p (xs ++ ys) ≡ xs ++ front p ys → (p x ≡ false → ⊥) → cond (p x) (x ∷ front p (xs ++ ys)) [] ≡ x ∷ (xs ++ front p ys)
    by_test true e rest none = ap (λ b. cond b (x ∷ front p (xs ++ ys)) []) e ∙ ap (λ l. x ∷ l) rest
    by_test false e rest none = absurd (none e)

pub back_over : {X : Type 0} (p : X → Bool) (xs ys : List X) → Falls p (xs ++ ys) → first_passes p ys ≡ true → back p (xs ++ ys) ≡ back p ys
back_over p [] ys h is = refl
back_over p (x ∷ xs) ys h is = by_test (p x) refl (back_over p xs ys h.1 is) (λ e. not_all p xs ys is (h.0 e))
  where
    by_test : (b : Bool) → p x ≡ b → back p (xs ++ ys) ≡ back p ys → (p x ≡ false → ⊥) → cond (p x) (back p (xs ++ ys)) (x ∷ (xs ++ ys)) ≡ back p ys
    by_test true e rest none = ap (λ b. cond b (back p (xs ++ ys)) (x ∷ (xs ++ ys))) e ∙ rest
    by_test false e rest none = absurd (none e)

-- those that fail stand behind the cut
pub front_before : {X : Type 0} (p : X → Bool) (xs ys : List X) → AllByRecursion (λ y. p y ≡ false) ys → front p (xs ++ ys) ≡ front p xs
front_before p [] ys all = front_none p ys all
front_before p (x ∷ xs) ys all = ap (λ l. cond (p x) (x ∷ l) []) (front_before p xs ys all)

pub back_before : {X : Type 0} (p : X → Bool) (xs ys : List X) → AllByRecursion (λ y. p y ≡ false) ys → back p (xs ++ ys) ≡ back p xs ++ ys
back_before p [] ys all = back_all p ys all
back_before p (x ∷ xs) ys all = by_test (p x) (back_before p xs ys all)
  where
    by_test : (b : Bool) → back p (xs ++ ys) ≡ back p xs ++ ys → cond b (back p (xs ++ ys)) (x ∷ (xs ++ ys)) ≡ cond b (back p xs) (x ∷ xs) ++ ys
    by_test true e = e
    by_test false e = refl

-- the front is the first so many
pub front_is : {X : Type 0} (p : X → Bool) (xs : List X) → front p xs ≡ take (length (front p xs)) xs
front_is p [] = refl
front_is p (x ∷ xs) = by_test (p x) (front_is p xs)
  where
    by_test : (b : Bool) → front p xs ≡ take (length (front p xs)) xs → cond b (x ∷ front p xs) [] ≡ take (length (cond b (x ∷ front p xs) [])) (x ∷ xs)
    by_test true e = ap (λ l. x ∷ l) e
    by_test false e = refl

pub back_is : {X : Type 0} (p : X → Bool) (xs : List X) → back p xs ≡ drop (length (front p xs)) xs
back_is p [] = refl
back_is p (x ∷ xs) = by_test (p x) (back_is p xs)
  where
    by_test : (b : Bool) → back p xs ≡ drop (length (front p xs)) xs → cond b (back p xs) (x ∷ xs) ≡ drop (length (cond b (x ∷ front p xs) [])) (x ∷ xs)
    by_test true e = e
    by_test false e = refl

pub front_within : {X : Type 0} (p : X → Bool) (xs : List X) → length (front p xs) ≤ length xs
front_within p [] = omega arith
front_within p (x ∷ xs) = by_test (p x) (front_within p xs)
  where
    by_test : (b : Bool) → length (front p xs) ≤ length xs → length (cond b (x ∷ front p xs) []) ≤ suc (length xs)
    by_test true h = omega arith
    by_test false h = omega arith

-- a list in two at an element
pub whole : {X : Type 0} (m : ℕ) (xs before rest : List X) (y : X) (behind : List X) → before ≡ take m xs → rest ≡ drop m xs → rest ≡ y ∷ behind → xs ≡ before ++ (y ∷ behind)
whole m xs before rest y behind first second two = sym (take-append-drop m xs) ∙ ap (λ l. l ++ drop m xs) (sym first) ∙ ap (λ l. before ++ l) (sym second ∙ two)

pub falls_behind : {X : Type 0} (p : X → Bool) (xs before : List X) (y : X) (behind : List X) → xs ≡ before ++ (y ∷ behind) → Falls p xs → Falls p behind
falls_behind p xs before y behind is falls = (falls_right p before (y ∷ behind) (subst (Falls p) is falls)).1

pub falls_before : {X : Type 0} (p : X → Bool) (xs before : List X) (y : X) (behind : List X) → xs ≡ before ++ (y ∷ behind) → Falls p xs → Falls p before
falls_before p xs before y behind is falls = falls_left p before (y ∷ behind) (subst (Falls p) is falls)

pub cut_right : {X : Type 0} (p : X → Bool) (xs before : List X) (y : X) (behind : List X) (r : ℕ) → xs ≡ before ++ (y ∷ behind) → Falls p xs → p y ≡ true
    → r ≡ length (front p behind) → length before + 1 + r ≡ length (front p xs)
cut_right p xs before y behind r is falls passes found =
    let over : front p xs ≡ before ++ (y ∷ front p behind) =
    ap (front p) is
    ∙ (front_over p before (y ∷ behind) (subst (Falls p) is falls) passes
    ∙ ap (λ b. before ++ cond b (y ∷ front p behind) []) passes) in
    let long : length (front p xs) ≡ length before + suc (length (front p behind)) = ap length over ∙ length-append before (y ∷ front p behind) in
    omega arith

pub cut_left : {X : Type 0} (p : X → Bool) (xs before : List X) (y : X) (behind : List X) → xs ≡ before ++ (y ∷ behind) → Falls p xs → p y ≡ false
    → length (front p before) ≡ length (front p xs)
cut_left p xs before y behind is falls fails =
    let rest : Falls p (y ∷ behind) = falls_right p before (y ∷ behind) (subst (Falls p) is falls) in
    ap length (sym (ap (front p) is ∙ front_before p before (y ∷ behind) (fails, rest.0 fails)))

-- one look halves what is left
pub cost_more : (n m old mid new : ℕ) → ((d : ℕ) → m < 2 ^ d → new ≤ mid + d) → 0 < n → m ≤ n / 2 → mid ≡ old + 1 → (d : ℕ) → n < 2 ^ d → new ≤ old + d
cost_more n m old mid new rest some half one zero within = absurd (omega arith)
cost_more n m old mid new rest some half one (suc d) within =
    let twice : 2 ^ suc d ≡ 2 ^ d * 2 = pow-suc 2 d in
    let under : m < 2 ^ d = omega arith in
    let more : new ≤ mid + d = rest d under in
    omega arith
