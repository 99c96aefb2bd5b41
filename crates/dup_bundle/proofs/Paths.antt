-- Lists of paths in order, which are one list where they have the same members.
use Rattle.std.proofs.Common.{◌≡◌, ◌≤◌, ◌<◌, ◌⊎◌, inl, inr, Bool, true, false, cond, length, List, [], ◌∷◌, map, refl, sym, ap, ◌∙◌, arith}
use Rattle.std.specs.List.{AllByRecursion, filter}
use Rattle.std.specs.List.Sorted.{IsStrictlySortedBy}
use Rattle.std.specs.declared.cmp.Ordering.{Ordering}
use Rattle.std.specs.declared.cmp.Ordering.TheVariants.{Less, Equal, Greater}
use Rattle.std.specs.Ordering.{is_lt}
use Rattle.std.specs.Cmp.Lexicographic.{nat_list_cmp_total}
use Rattle.std.specs.FinMap as fin
use Rattle.std.specs.FinMap.Entries.{below_all, is_sorted}
use Rattle.std.proofs.lemmas.Bool.{true≢false, and_parts, or_cases}
use Rattle.std.proofs.lemmas.Map.Lookups.{btree_set_from_contains, exact_bytes}
use Rattle.dup_names.specs.Order.{text_cmp}
use Rattle.dup_names.specs.Words.{Path}
use Rattle.dup_model.specs.Editions.{has}
use Rattle.dup_model.proofs.Reached.{tie_same}
use Rattle.std.specs.Ordering.{eq_by_cmp}
use Rattle.dup_names.proofs.Truth.{from_T}

abbrev pub IsInOrder : List Path → Type 0
IsInOrder = IsStrictlySortedBy text_cmp

pub same_members : (xs ys : List Path) → IsInOrder xs → IsInOrder ys → ((q : Path) → has xs q ≡ has ys q) → xs ≡ ys
same_members xs ys x_order y_order same = btree_set_from_contains nat_list_cmp_total (record { keys = xs }) (record { keys = ys }) x_order y_order same exact_bytes

is_less : (r : Ordering) → is_lt r ≡ true → r ≡ Less
is_less Less h = refl
is_less Equal h = absurd (true≢false (sym h))
is_less Greater h = absurd (true≢false (sym h))

module _ {X : Type 0} where
  below : (k : Path) (es : List (Path × X)) → below_all text_cmp k es ≡ true → AllByRecursion (λ y. text_cmp k y ≡ Less) (map (λ e. e.0) es)
  below k [] h = tt
  below k (e ∷ es) h = (is_less _ (and_parts _ _ h).0, below k es (and_parts _ _ h).1)

  pub keys_in_order : (es : List (Path × X)) → is_sorted text_cmp es ≡ true → IsInOrder (map (λ e. e.0) es)
  unfolding IsStrictlySortedBy
  keys_in_order [] h = tt
  keys_in_order (e ∷ es) h = (below e.0 es (and_parts _ _ h).0, keys_in_order es (and_parts _ _ h).1)

  pub map_in_order : (m : fin.FinMap text_cmp X) → IsInOrder (fin.keys m)
  map_in_order m = keys_in_order (fin.entries m) (from_T _ (fin.entries_sorted m))

-- fewer are left where one fails
no_longer : (f : Path → Bool) (l : List Path) → length (filter f l) ≤ length l
no_longer f [] = omega arith
no_longer f (x ∷ l) = by_test (f x) (no_longer f l)
  where
    by_test : (b : Bool) → length (filter f l) ≤ length l → length (cond b (x ∷ filter f l) (filter f l)) ≤ length (x ∷ l)
    by_test true rest = omega (arith, rest)
    by_test false rest = omega (arith, rest)

pub shorter : (f : Path → Bool) (l : List Path) (y : Path) → has l y ≡ true → f y ≡ false → length (filter f l) < length l
shorter f [] y inside fails = absurd (true≢false (sym inside))
shorter f (x ∷ l) y inside fails = by_test (f x) refl (or_cases _ _ inside) (λ later. shorter f l y later fails)
  where
    by_test : (b : Bool) → f x ≡ b → (eq_by_cmp text_cmp y x ≡ true) ⊎ (has l y ≡ true) → (has l y ≡ true → length (filter f l) < length l) → length (cond b (x ∷ filter f l) (filter f l)) < length (x ∷ l)
    by_test true is (inl tie) later = absurd (true≢false (sym is ∙ ap f (sym (tie_same y x tie)) ∙ fails))
    by_test true is (inr inside) later = omega (arith, later inside)
    by_test false is where_it later = omega (arith, no_longer f l)
