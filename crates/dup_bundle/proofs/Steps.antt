-- Steps of loops over paths.
use Rattle.std.proofs.Common.{ℕ, ◌+◌, ◌<◌, length, take, get_or, inl, inr, ◌≡◌, Bool, true, false, not, cond, ◌||◌, ◌&&◌, List, [], ◌∷◌, ◌++◌, Option, Some, None, refl, sym, ap, ◌∙◌}
use Rattle.std.specs.List.{filter, filter_map, list_all, list_any}
use Rattle.std.specs.Prelude.{bytes_eq}
use Rattle.std.specs.Cmp.{eq_by_cmp_equiv}
use Rattle.std.specs.Cmp.Lexicographic.{nat_list_cmp_total}
use Rattle.std.proofs.lemmas.Slice.Eq.{bytes_eq-Decides}
use Rattle.std.proofs.lemmas.Bool.{true≢false, and_parts, or_cases}
use Rattle.std.proofs.lemmas.List.Folds.{list_any_more}
use Rattle.dup_model.specs.Editions.{has}
use Rattle.std.specs.Ordering.{eq_by_cmp}
use Rattle.dup_names.specs.Order.{text_cmp}
use Rattle.dup_names.specs.Words.{Path}
use Rattle.dup_model.proofs.Reached.{tie_itself, tie_same}

module _ (f : Path → Bool) (q p : Path) where
  -- a path that passes is added, another one taken away
  looked_in_at : (tie : Bool) → eq_by_cmp text_cmp q p ≡ tie → (old : Bool) → f p ≡ true → (tie || old) ≡ cond tie (f q) old
  looked_in_at true is old h = sym (ap f (tie_same q p is) ∙ h)
  looked_in_at false is old h = refl

  pub looked_in : (old : Bool) → f p ≡ true → (eq_by_cmp text_cmp q p || old) ≡ cond (eq_by_cmp text_cmp q p) (f q) old
  looked_in old h = looked_in_at (eq_by_cmp text_cmp q p) refl old h

  looked_out_at : (tie : Bool) → eq_by_cmp text_cmp q p ≡ tie → (old : Bool) → f p ≡ false → (not tie && old) ≡ cond tie (f q) old
  looked_out_at true is old h = sym (ap f (tie_same q p is) ∙ h)
  looked_out_at false is old h = refl

  pub looked_out : (old : Bool) → f p ≡ false → (not (eq_by_cmp text_cmp q p) && old) ≡ cond (eq_by_cmp text_cmp q p) (f q) old
  looked_out old h = looked_out_at (eq_by_cmp text_cmp q p) refl old h

or_cond : (b old : Bool) → cond b true old ≡ (b || old)
or_cond true old = refl
or_cond false old = refl

and_cond : (b old : Bool) → cond b false old ≡ (not b && old)
and_cond true old = refl
and_cond false old = refl

pub added_is : (p q : Path) (old : Bool) → cond (eq_by_cmp text_cmp p q) true old ≡ (eq_by_cmp text_cmp q p || old)
added_is p q old = ap (λ b. cond b true old) ((eq_by_cmp_equiv nat_list_cmp_total).symm p q) ∙ or_cond (eq_by_cmp text_cmp q p) old

pub removed_is : (p q : Path) (old : Bool) → cond (eq_by_cmp text_cmp p q) false old ≡ (not (eq_by_cmp text_cmp q p) && old)
removed_is p q old = ap (λ b. cond b false old) ((eq_by_cmp_equiv nat_list_cmp_total).symm p q) ∙ and_cond (eq_by_cmp text_cmp q p) old

-- links are found by their bytes
same_test : (q p : Path) → eq_by_cmp text_cmp q p ≡ bytes_eq q p
same_test q p = by_cases (eq_by_cmp text_cmp q p) refl (bytes_eq q p) refl
  where
    by_cases : (a : Bool) → eq_by_cmp text_cmp q p ≡ a → (b : Bool) → bytes_eq q p ≡ b → a ≡ b
    by_cases true tie true same = refl
    by_cases true tie false same = sym (sym same ∙ (bytes_eq-Decides q p).1 (tie_same q p tie))
    by_cases false tie true same = sym tie ∙ ap (eq_by_cmp text_cmp q) (sym ((bytes_eq-Decides q p).0 same)) ∙ tie_itself q
    by_cases false tie false same = refl

pub has_by_bytes : (links : List Path) (q : Path) → has links q ≡ list_any (bytes_eq q) links
has_by_bytes [] q = refl
has_by_bytes (p ∷ links) q = rw (same_test q p, has_by_bytes links q) refl

-- the elements at q that pass
pub at_and : {X : Type 0} (key : X → Path) (f : Path → Bool) (q : Path) (xs : List X) →
    list_any (λ x. eq_by_cmp text_cmp q (key x) && f (key x)) xs ≡ (list_any (λ x. eq_by_cmp text_cmp q (key x)) xs && f q)
at_and key f q [] = refl
at_and key f q (x ∷ xs) = by_tie (eq_by_cmp text_cmp q (key x)) refl (at_and key f q xs)
  where
    absorbs : (a b : Bool) → (b || (a && b)) ≡ b
    absorbs true true = refl
    absorbs true false = refl
    absorbs false true = refl
    absorbs false false = refl

    by_tie : (tie : Bool) → eq_by_cmp text_cmp q (key x) ≡ tie → list_any (λ x. eq_by_cmp text_cmp q (key x) && f (key x)) xs ≡ (list_any (λ x. eq_by_cmp text_cmp q (key x)) xs && f q) →
        ((tie && f (key x)) || list_any (λ x. eq_by_cmp text_cmp q (key x) && f (key x)) xs) ≡ ((tie || list_any (λ x. eq_by_cmp text_cmp q (key x)) xs) && f q)
    by_tie true is rest = rw (rest, tie_same q (key x) is) (absorbs (list_any (λ y. eq_by_cmp text_cmp (key x) (key y)) xs) (f (key x)))
    by_tie false is rest = rest

pub cond_or : {X : Type 0} (a b : Bool) (x y : X) → cond b x (cond a x y) ≡ cond (a || b) x y
cond_or true true x y = refl
cond_or true false x y = refl
cond_or false true x y = refl
cond_or false false x y = refl

pub and_not_or : (a b c : Bool) → (not b && (not a && c)) ≡ (not (a || b) && c)
and_not_or true true c = refl
and_not_or true false c = refl
and_not_or false true c = refl
and_not_or false false c = refl

-- a key of the set, as the query finds it
pub has_other : (p : Path) (ps : List Path) → has ps p ≡ list_any (λ x. eq_by_cmp text_cmp p x) ps
has_other p ps = refl

-- a path that is looked at in a walk
module _ (q p : Path) where
  same_at : (s : Path → Bool) (b : Bool) → s p ≡ b → (tie : Bool) → eq_by_cmp text_cmp q p ≡ tie → tie ≡ true → s q ≡ b
  same_at s b is tie tie_is h = ap s (tie_same q p (tie_is ∙ h)) ∙ is

  seen_at : (s : Path → Bool) (n : Bool) → s p ≡ true → (tie : Bool) → eq_by_cmp text_cmp q p ≡ tie → s q ≡ (s q || (tie && n))
  seen_at s n is true tie = rw (same_at s true is true tie refl) refl
  seen_at s n is false tie = or_false (s q)
    where
      or_false : (b : Bool) → b ≡ (b || false)
      or_false true = refl
      or_false false = refl

  pub seen_already : (s : Path → Bool) (n : Bool) → s p ≡ true → s q ≡ (s q || (eq_by_cmp text_cmp q p && n))
  seen_already s n is = seen_at s n is (eq_by_cmp text_cmp q p) refl

  due_at : (d : Bool) (s : Path → Bool) → s p ≡ false → (tie : Bool) → eq_by_cmp text_cmp q p ≡ tie → (d || (tie || false)) ≡ (d || ((tie || s q) && not (s q)))
  due_at d s is true tie = rw (same_at s false is true tie refl) refl
  due_at d s is false tie = ap (λ b. d || b) (never (s q))
    where
      never : (b : Bool) → false ≡ (b && not b)
      never true = refl
      never false = refl

  pub due_new : (d : Bool) (s : Path → Bool) → s p ≡ false → (d || (eq_by_cmp text_cmp q p || false)) ≡ (d || ((eq_by_cmp text_cmp q p || s q) && not (s q)))
  due_new d s is = due_at d s is (eq_by_cmp text_cmp q p) refl

pub not_needed : (s tie n : Bool) → n ≡ false → s ≡ (s || (tie && n))
not_needed true tie n is = refl
not_needed false true n is = sym is
not_needed false false n is = refl

pub now_needed : (s tie n : Bool) → n ≡ true → (tie || s) ≡ (s || (tie && n))
now_needed true true n is = refl
now_needed true false n is = refl
now_needed false true n is = sym is
now_needed false false n is = refl

pub due_same : (d s : Bool) → d ≡ (d || (s && not s))
due_same true s = refl
due_same false true = refl
due_same false false = refl

pub due_more : (d s0 s x : Bool) → (s0 && not s) ≡ false → ((d || (s && not s0)) || ((s || x) && not s)) ≡ (d || ((s || x) && not s0))
due_more true s0 s x h = refl
due_more false true true x h = refl
due_more false true false x h = absurd (true≢false h)
due_more false false true x h = refl
due_more false false false true h = refl
due_more false false false false h = refl

pub still_seen : (s0 s x : Bool) → (s0 && not s) ≡ false → (s0 && not (s || x)) ≡ false
still_seen true true x h = refl
still_seen true false x h = absurd (true≢false h)
still_seen false s x h = refl

-- what one path gives, and then the others
pub filter_map_first : {X : Type 0} (f : Path → Option X) (p : Path) (ps : List Path) → filter_map f (p ∷ []) ++ filter_map f ps ≡ filter_map f (p ∷ ps)
filter_map_first {X = X} f p ps = by_found (f p) refl
  where
    by_found : (found : Option X) → f p ≡ found → filter_map f (p ∷ []) ++ filter_map f ps ≡ filter_map f (p ∷ ps)
    by_found None is = rw is refl
    by_found (Some x) is = rw is refl

pub filter_first : (f : Path → Bool) (p : Path) (ps : List Path) → filter f (p ∷ []) ++ filter f ps ≡ filter f (p ∷ ps)
filter_first f p ps = by_test (f p)
  where
    by_test : (b : Bool) → cond b (p ∷ []) [] ++ filter f ps ≡ cond b (p ∷ filter f ps) (filter f ps)
    by_test true = refl
    by_test false = refl

-- of what passes, one covers all
pub covered : (a k : Bool) → (k ≡ true → a ≡ true) → (a && k) ≡ k
covered true k h = refl
covered false true h = h refl
covered false false h = refl

both_at : (s u l k : Bool) → (k ≡ true → (u || l) ≡ true) → ((s || (u && k)) || (l && k)) ≡ (s || k)
both_at true u l k h = refl
both_at false true l k h = or_absorbs k l
  where
    or_absorbs : (k l : Bool) → (k || (l && k)) ≡ k
    or_absorbs true l = refl
    or_absorbs false true = refl
    or_absorbs false false = refl
both_at false false l k h = covered l k h

pub both_cover : (s u l k : Bool) → (k ≡ true → (u || l) ≡ true) → ((s || (u && k)) || (l && k)) ≡ (s || k)
both_cover s u l k h = both_at s u l k h

pub or_and : (s u r k : Bool) → ((s || (u && k)) || (r && k)) ≡ (s || ((u || r) && k))
or_and true u r k = refl
or_and false true r true = refl
or_and false true true false = refl
or_and false true false false = refl
or_and false false r k = refl

joined_at : (d s0 y x : Bool) → ((d || ((s0 || y) && not s0)) || (((s0 || y) || x) && not (s0 || y))) ≡ (d || (((s0 || y) || x) && not s0))
joined_at true s0 y x = refl
joined_at false true y x = refl
joined_at false false true x = refl
joined_at false false false x = refl

-- what became due in two steps
pub due_joined : (d s0 s1 s2 y x : Bool) → s1 ≡ (s0 || y) → s2 ≡ (s1 || x) → ((d || (s1 && not s0)) || (s2 && not s1)) ≡ (d || (s2 && not s0))
due_joined d s0 s1 s2 y x first second = rw (second, first) (joined_at d s0 y x)

pub or_false : (b : Bool) → b ≡ (b || false)
or_false true = refl
or_false false = refl

-- one element more of those that were taken
pub taken_more : {X : Type 0} (f : X → Bool) {P : Type 0} (xs : List X) (i : ℕ) (d : X) → i < length xs → (list_any f (take i xs) ≡ true → P) → (f (get_or xs i d) ≡ true → P) → list_any f (take (i + 1) xs) ≡ true → P
taken_more f xs i d within before here h = elim (or_cases (list_any f (take i xs)) (f (get_or xs i d)) (sym (list_any_more f xs i d within) ∙ h)) [ inl old ↦ before old | inr new ↦ here new ]

-- what all of some paths are, each is
pub all_at : (f : Path → Bool) (ps : List Path) → list_all f ps ≡ true → (q : Path) → has ps q ≡ true → f q ≡ true
all_at f [] all q inside = absurd (true≢false (sym inside))
all_at f (p ∷ ps) all q inside = elim (or_cases _ _ inside) [
  | inl tie ↦ ap f (tie_same q p tie) ∙ (and_parts _ _ all).0
  | inr later ↦ all_at f ps (and_parts _ _ all).1 q later
]

-- what was seen is added by nothing
pub covered_by : (s u n : Bool) → (u ≡ true → s ≡ true) → s ≡ (s || (u && n))
covered_by true u n h = refl
covered_by false true n h = absurd (true≢false (sym (h refl)))
covered_by false false n h = refl
