-- A sorted list, each element once, has its elements in order.
use Rattle.std.proofs.Common.{◌≡◌, Bool, true, List, [], ◌∷◌, refl, sym, ap, ◌∙◌}
use Rattle.std.specs.Bool.{Decides}
use Rattle.std.specs.Cmp.{IsTotalOrder, IsEquivalence, Equal-is, eq_by_cmp_equiv, both_ways}
use Rattle.std.specs.List.{AllByRecursion, list_any, dedup}
use Rattle.std.specs.List.Sorted.{IsPermutation, IsSorted, IsStrictlySortedBy}
use Rattle.std.specs.Ordering.{eq_by_cmp}
use Rattle.std.specs.declared.cmp.Ordering.{Ordering}
use Rattle.std.specs.declared.cmp.Ordering.TheVariants.{Less, Equal}
use Rattle.std.proofs.lemmas.List.Kept.{IsStrictlySortedBy-dedup, Contains-dedup, Contains-from_dedup}
use Rattle.std.proofs.lemmas.List.Sorted.{list_any-IsPermutation}
use Rattle.std.proofs.lemmas.Map.Views.{Contains-from_any, list_any-from_Contains}
use Rattle.dup_names.specs.Words.{put, put_at, in_order}
use Rattle.dup_model.proofs.Canonical.{same_in_order}

module _ {X : Type 0} (cmp : X → X → Ordering) where
  put_first : (x : X) (ys : List X) → AllByRecursion (λ y. cmp x y ≡ Less) ys → put cmp x ys ≡ x ∷ ys
  put_first x [] below = refl
  put_first x (y ∷ ys) below = ap (λ r. put_at r x y ys (put cmp x ys)) below.0

  in_order_stays : (xs : List X) → IsStrictlySortedBy cmp xs → in_order cmp xs ≡ xs
  unfolding IsStrictlySortedBy
  in_order_stays [] rising = refl
  in_order_stays (x ∷ xs) rising = ap (put cmp x) (in_order_stays xs rising.1) ∙ put_first x xs rising.0

  module _ (total : IsTotalOrder cmp) (tied : (x y : X) → cmp x y ≡ Equal → x ≡ y) (E : X → X → Bool) (equal : IsEquivalence E) (ties : (x y : X) → E x y ≡ eq_by_cmp cmp x y) where
    exact : (x y : X) → eq_by_cmp cmp x y ≡ true → x ≡ y
    exact x y h = tied x y ((Equal-is (cmp x y)).0 h)

    kept : (z : X) (xs : List X) → list_any (eq_by_cmp cmp z) xs ≡ list_any (eq_by_cmp cmp z) (dedup E xs)
    kept z xs = both_ways _ _
        (λ h. list_any-from_Contains (eq_by_cmp_equiv total) z (dedup E xs)
        (Contains-dedup equal (λ x y e. exact x y (sym (ties x y) ∙ e)) xs z (Contains-from_any exact z xs h)))
        (λ h. list_any-from_Contains (eq_by_cmp_equiv total) z xs (Contains-from_dedup E xs z (Contains-from_any exact z (dedup E xs) h)))

    pub sorted_in_order : (xs ys : List X) → IsPermutation xs ys → IsSorted cmp ys → in_order cmp xs ≡ dedup E ys
    sorted_in_order xs ys moved sorted =
        same_in_order cmp total tied xs (dedup E ys) (λ z. list_any-IsPermutation (eq_by_cmp cmp z) xs ys moved ∙ kept z ys)
        ∙ in_order_stays (dedup E ys) (IsStrictlySortedBy-dedup total ties ys sorted)

  -- a test for the same element is an equivalence, and holds just where the order says so
  module _ (total : IsTotalOrder cmp) (tied : (x y : X) → cmp x y ≡ Equal → x ≡ y) (E : X → X → Bool) (is_same : (x y : X) → Decides (E x y) (x ≡ y)) where
    same_equivalence : IsEquivalence E
    same_equivalence = record {
      refl = λ x. (is_same x x).1 refl;
      symm = λ x y. both_ways _ _ (λ h. (is_same y x).1 (sym ((is_same x y).0 h))) (λ h. (is_same x y).1 (sym ((is_same y x).0 h)));
      congr = λ x y z h. ap (λ w. E w z) ((is_same x y).0 h);
    }

    same_ties : (x y : X) → E x y ≡ eq_by_cmp cmp x y
    same_ties x y = both_ways _ _
        (λ h. ap (λ z. eq_by_cmp cmp x z) (sym ((is_same x y).0 h)) ∙ (eq_by_cmp_equiv total).refl x)
        (λ h. (is_same x y).1 (tied x y ((Equal-is (cmp x y)).0 h)))

    pub deduped_in_order : (xs ys : List X) → IsPermutation xs ys → IsSorted cmp ys → in_order cmp xs ≡ dedup E ys
    deduped_in_order = sorted_in_order total tied E same_equivalence same_ties
