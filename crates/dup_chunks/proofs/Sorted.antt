-- Lists whose keys rise, cut before a key.
use Rattle.std.proofs.Common.{◌≡◌, ℕ, Bool, true, false, not, cond, ◌||◌, ◌&&◌, List, [], ◌∷◌, ◌++◌, drop, refl, sym, ap, subst, ◌∙◌}
use Rattle.std.specs.Prelude.{Option, Some, None, is_some, slice_get}
use Rattle.std.specs.List.{AllByRecursion, find, filter, list_any}
use Rattle.std.specs.Ordering.{is_lt, ordering_reverse}
use Rattle.std.specs.declared.cmp.Ordering.{Ordering}
use Rattle.std.specs.declared.cmp.Ordering.TheVariants.{Less, Equal, Greater}
use Rattle.std.specs.Cmp.{IsTotalOrder}
use Rattle.std.proofs.lemmas.Bool.{true≢false, false≢true}
use Rattle.dup_chunks.specs.Cut.{front, back, Falls, Rises}

-- an element that passes, if there is one
abbrev pub pick : {X : Type 0} → (X → Bool) → Option X → Option X
pick test None = None
pick test (Some x) = cond (test x) (Some x) None

pub any_cut : {X : Type 0} (p t : X → Bool) (x : X) (xs : List X) → list_any t (front p xs ++ x ∷ back p xs) ≡ (t x || list_any t xs)
any_cut p t x [] = refl
any_cut p t x (y ∷ ys) = by_test (p y) (any_cut p t x ys)
  where
    swap : (a b c : Bool) → (a || (b || c)) ≡ (b || (a || c))
    swap true true c = refl
    swap true false c = refl
    swap false b c = refl

    by_test : (b : Bool) → list_any t (front p ys ++ x ∷ back p ys) ≡ (t x || list_any t ys) → list_any t (cond b (y ∷ front p ys) [] ++ x ∷ cond b (back p ys) (y ∷ ys)) ≡ (t x || (t y || list_any t ys))
    by_test true rest = ap (λ b. t y || b) rest ∙ swap (t y) (t x) (list_any t ys)
    by_test false rest = refl

pub all_cut : {X : Type 0} (p : X → Bool) (P : X → Type 0) (x : X) (xs : List X) → P x → AllByRecursion P xs → AllByRecursion P (front p xs ++ x ∷ back p xs)
all_cut p P x [] here all = (here, tt)
all_cut p P x (y ∷ ys) here all = by_test (p y) (all_cut p P x ys here all.1)
  where
    by_test : (b : Bool) → AllByRecursion P (front p ys ++ x ∷ back p ys) → AllByRecursion P (cond b (y ∷ front p ys) [] ++ x ∷ cond b (back p ys) (y ∷ ys))
    by_test true rest = (all.0, rest)
    by_test false rest = (here, all)

module _ {X K : Type 0} (k : X → K) (cmp : K → K → Ordering) (o : IsTotalOrder cmp) (same : K → K → Bool) (same_is : (a b : K) → same a b ≡ true → a ≡ b)
    (is_same : (a b : K) → a ≡ b → same a b ≡ true) (equal_is : (a b : K) → cmp a b ≡ Equal → a ≡ b) where
  reversed : (a b : K) (r : Ordering) → cmp b a ≡ r → cmp a b ≡ ordering_reverse r
  reversed a b r is = o.antisymm a b ∙ ap ordering_reverse is

  not_below : (a : K) → cmp a a ≡ Less → ⊥
  not_below a is = let back : Less ≡ Greater = sym is ∙ reversed a a Less is in cc

  apart : (a b : K) → cmp a b ≡ Less → same a b ≡ false
  apart a b less = by_test (same a b) refl
    where
      by_test : (t : Bool) → same a b ≡ t → same a b ≡ false
      by_test false is = is
      by_test true is = absurd (not_below a (ap (cmp a) (same_is a b is) ∙ less))

  apart_back : (a b : K) → cmp b a ≡ Less → same a b ≡ false
  apart_back a b less = by_test (same a b) refl
    where
      by_test : (t : Bool) → same a b ≡ t → same a b ≡ false
      by_test false is = is
      by_test true is = absurd (not_below b (ap (cmp b) (sym (same_is a b is)) ∙ less))

  above_more : (a b : K) (xs : List X) → cmp a b ≡ Less → AllByRecursion (λ y. cmp b (k y) ≡ Less) xs → AllByRecursion (λ y. cmp a (k y) ≡ Less) xs
  above_more a b [] less all = tt
  above_more a b (x ∷ xs) less all = (o.trans a b (k x) less all.0, above_more a b xs less all.1)

  not_before : (key a b : K) → cmp a b ≡ Less → is_lt (cmp a key) ≡ false → is_lt (cmp b key) ≡ false
  not_before key a b less fails = by_cmp (cmp b key) refl
    where
      by_cmp : (r : Ordering) → cmp b key ≡ r → is_lt (cmp b key) ≡ false
      by_cmp Less is = absurd (false≢true (sym fails ∙ ap is_lt (o.trans a b key less is)))
      by_cmp Equal is = ap is_lt is
      by_cmp Greater is = ap is_lt is

  none_before : (key a : K) (xs : List X) → is_lt (cmp a key) ≡ false → AllByRecursion (λ y. cmp a (k y) ≡ Less) xs → AllByRecursion (λ y. is_lt (cmp (k y) key) ≡ false) xs
  none_before key a [] fails all = tt
  none_before key a (x ∷ xs) fails all = (not_before key a (k x) all.0 fails, none_before key a xs fails all.1)

  pub rises_falls : (key : K) (xs : List X) → Rises k cmp xs → Falls (λ y. is_lt (cmp (k y) key)) xs
  rises_falls key [] h = tt
  rises_falls key (x ∷ xs) h = (λ fails. none_before key (k x) xs fails h.0, rises_falls key xs h.1)

  absent_above : (key : K) (xs : List X) → AllByRecursion (λ y. cmp key (k y) ≡ Less) xs → find (λ y. same (k y) key) xs ≡ None
  absent_above key [] all = refl
  absent_above key (x ∷ xs) all = ap (λ b. cond b (Some x) (find (λ y. same (k y) key) xs)) (apart_back (k x) key all.0) ∙ absent_above key xs all.1

  stays_above : (key : K) (xs : List X) → AllByRecursion (λ y. cmp key (k y) ≡ Less) xs → filter (λ y. not (same (k y) key)) xs ≡ xs
  stays_above key [] all = refl
  stays_above key (x ∷ xs) all =
      ap (λ b. cond (not b) (x ∷ filter (λ y. not (same (k y) key)) xs) (filter (λ y. not (same (k y) key)) xs)) (apart_back (k x) key all.0)
      ∙ ap (λ l. x ∷ l) (stays_above key xs all.1)

  -- the key's element is the first that isn't before the key
  pub found : (key : K) (xs : List X) → Rises k cmp xs → find (λ y. same (k y) key) xs ≡ pick (λ y. same (k y) key) (slice_get (back (λ y. is_lt (cmp (k y) key)) xs) 0)
  found key [] h = refl
  found key (x ∷ xs) h = by_cmp (cmp (k x) key) refl (found key xs h.1)
    where
      behind : is_lt (cmp (k x) key) ≡ false → find (λ y. same (k y) key) (x ∷ xs) ≡ pick (λ y. same (k y) key) (Some x) → find (λ y. same (k y) key) (x ∷ xs) ≡ pick (λ y. same (k y) key) (slice_get (back (λ y. is_lt (cmp (k y) key)) (x ∷ xs)) 0)
      behind fails is = is ∙ ap (λ b. pick (λ y. same (k y) key) (slice_get (cond b (back (λ y. is_lt (cmp (k y) key)) xs) (x ∷ xs)) 0)) (sym fails)

      by_cmp : (r : Ordering) → cmp (k x) key ≡ r → find (λ y. same (k y) key) xs ≡ pick (λ y. same (k y) key) (slice_get (back (λ y. is_lt (cmp (k y) key)) xs) 0) → find (λ y. same (k y) key) (x ∷ xs) ≡ pick (λ y. same (k y) key) (slice_get (back (λ y. is_lt (cmp (k y) key)) (x ∷ xs)) 0)
      by_cmp Less is rest =
          ap (λ b. cond b (Some x) (find (λ y. same (k y) key) xs)) (apart (k x) key is) ∙ rest
          ∙ ap (λ b. pick (λ y. same (k y) key) (slice_get (cond b (back (λ y. is_lt (cmp (k y) key)) xs) (x ∷ xs)) 0)) (sym (ap is_lt is))
      by_cmp Equal is rest =
          let same_key = is_same (k x) key (equal_is (k x) key is) in
          behind (ap is_lt is) (ap (λ b. cond b (Some x) (find (λ y. same (k y) key) xs)) same_key ∙ ap (λ b. cond b (Some x) None) (sym same_key))
      by_cmp Greater is rest =
          let less : cmp key (k x) ≡ Less = reversed key (k x) Greater is in
          let other = apart_back (k x) key less in
          behind (ap is_lt is) (ap (λ b. cond b (Some x) (find (λ y. same (k y) key) xs)) other ∙ absent_above key xs (above_more key (k x) xs less h.0) ∙ ap (λ b. cond b (Some x) None) (sym other))

  -- the key's element taken out
  pub taken_out : (key : K) (xs : List X) → Rises k cmp xs → is_some (find (λ y. same (k y) key) xs) ≡ true
      → filter (λ y. not (same (k y) key)) xs ≡ front (λ y. is_lt (cmp (k y) key)) xs ++ drop 1 (back (λ y. is_lt (cmp (k y) key)) xs)
  taken_out key [] h there = absurd (true≢false (sym there))
  taken_out key (x ∷ xs) h there = by_cmp (cmp (k x) key) refl (taken_out key xs h.1)
    where
      by_cmp : (r : Ordering) → cmp (k x) key ≡ r
          → (is_some (find (λ y. same (k y) key) xs) ≡ true → filter (λ y. not (same (k y) key)) xs ≡ front (λ y. is_lt (cmp (k y) key)) xs ++ drop 1 (back (λ y. is_lt (cmp (k y) key)) xs))
          → filter (λ y. not (same (k y) key)) (x ∷ xs) ≡ front (λ y. is_lt (cmp (k y) key)) (x ∷ xs) ++ drop 1 (back (λ y. is_lt (cmp (k y) key)) (x ∷ xs))
      by_cmp Less is more =
          let other = apart (k x) key is in
          ap (λ b. cond (not b) (x ∷ filter (λ y. not (same (k y) key)) xs) (filter (λ y. not (same (k y) key)) xs)) other
          ∙ ap (λ l. x ∷ l) (more (ap (λ b. is_some (cond b (Some x) (find (λ y. same (k y) key) xs))) (sym other) ∙ there))
          ∙ ap (λ b. cond b (x ∷ front (λ y. is_lt (cmp (k y) key)) xs) [] ++ drop 1 (cond b (back (λ y. is_lt (cmp (k y) key)) xs) (x ∷ xs))) (sym (ap is_lt is))
      by_cmp Equal is more =
          let one = equal_is (k x) key is in
          ap (λ b. cond (not b) (x ∷ filter (λ y. not (same (k y) key)) xs) (filter (λ y. not (same (k y) key)) xs)) (is_same (k x) key one)
          ∙ stays_above key xs (subst (λ a. AllByRecursion (λ y. cmp a (k y) ≡ Less) xs) one h.0)
          ∙ ap (λ b. cond b (x ∷ front (λ y. is_lt (cmp (k y) key)) xs) [] ++ drop 1 (cond b (back (λ y. is_lt (cmp (k y) key)) xs) (x ∷ xs))) (sym (ap is_lt is))
      by_cmp Greater is more =
          let less : cmp key (k x) ≡ Less = reversed key (k x) Greater is in
          absurd (true≢false (sym there ∙ ap (λ b. is_some (cond b (Some x) (find (λ y. same (k y) key) xs))) (apart_back (k x) key less)
          ∙ ap is_some (absent_above key xs (above_more key (k x) xs less h.0))))

  -- an element put in where its key is absent
  pub rises_in : (x : X) (xs : List X) → Rises k cmp xs → is_some (find (λ y. same (k y) (k x)) xs) ≡ false
      → Rises k cmp (front (λ y. is_lt (cmp (k y) (k x))) xs ++ x ∷ back (λ y. is_lt (cmp (k y) (k x))) xs)
  rises_in x [] h absent = (tt, tt)
  rises_in x (z ∷ xs) h absent = by_cmp (cmp (k z) (k x)) refl (rises_in x xs h.1)
    where
      by_cmp : (r : Ordering) → cmp (k z) (k x) ≡ r
          → (is_some (find (λ y. same (k y) (k x)) xs) ≡ false → Rises k cmp (front (λ y. is_lt (cmp (k y) (k x))) xs ++ x ∷ back (λ y. is_lt (cmp (k y) (k x))) xs))
          → Rises k cmp (front (λ y. is_lt (cmp (k y) (k x))) (z ∷ xs) ++ x ∷ back (λ y. is_lt (cmp (k y) (k x))) (z ∷ xs))
      by_cmp Less is more =
          let other = apart (k z) (k x) is in
          let rest = more (ap (λ b. is_some (cond b (Some z) (find (λ y. same (k y) (k x)) xs))) (sym other) ∙ absent) in
          subst (λ b. Rises k cmp (cond b (z ∷ front (λ y. is_lt (cmp (k y) (k x))) xs) [] ++ x ∷ cond b (back (λ y. is_lt (cmp (k y) (k x))) xs) (z ∷ xs))) (sym (ap is_lt is))
          (all_cut (λ y. is_lt (cmp (k y) (k x))) (λ y. cmp (k z) (k y) ≡ Less) x xs is h.0, rest)
      by_cmp Equal is more =
          absurd (true≢false (ap (λ b. is_some (cond b (Some z) (find (λ y. same (k y) (k x)) xs))) (sym (is_same (k z) (k x) (equal_is (k z) (k x) is))) ∙ absent))
      by_cmp Greater is more =
          let less : cmp (k x) (k z) ≡ Less = reversed (k x) (k z) Greater is in
          subst (λ b. Rises k cmp (cond b (z ∷ front (λ y. is_lt (cmp (k y) (k x))) xs) [] ++ x ∷ cond b (back (λ y. is_lt (cmp (k y) (k x))) xs) (z ∷ xs))) (sym (ap is_lt is))
          ((less, above_more (k x) (k z) xs less h.0), h)
