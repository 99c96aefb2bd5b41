-- What a place or a gap in a list says of its entries; and what a binary search finds.
use Rattle.std.proofs.Common.{◌≡◌, ℕ, zero, suc, ◌<◌, ◌≤◌, true, not, cond, List, [], ◌∷◌, map, length, get_or, refl, sym, ap, subst, ◌∙◌, arith}
use Rattle.std.specs.Prelude.{Option, Some, None, Result, Ok, Err, IfOk, IfErr, slice_set}
use Rattle.std.specs.List.{insert, remove}
use Rattle.std.specs.List.Sorted.{IsPartitionPoint, IsNonDecreasingBy, IsBinarySearchResult, IsSearchInRange}
use Rattle.std.specs.Ordering.{eq_by_cmp, is_eq, is_lt, ordering_reverse, ordering_index}
use Rattle.std.specs.declared.cmp.Ordering.{Ordering}
use Rattle.std.specs.declared.cmp.Ordering.TheVariants.{Less, Equal, Greater}
use Rattle.std.specs.Cmp.{IsTotalOrder, tied_itself}
use Rattle.std.specs.FinMap.Entries.{below_all, by_order, find, is_sorted, put, where_key}
use Rattle.std.proofs.lemmas.Bool.{true≢false, and_parts}
use Rattle.dup_edition.specs.Places.{IsAt, IsGap}

is_less : (r : Ordering) → is_lt r ≡ true → r ≡ Less
is_less Less h = refl
is_less Equal h = absurd (true≢false (sym h))
is_less Greater h = absurd (true≢false (sym h))

least : (r : Ordering) → 0 ≤ ordering_index r
least r = omega arith

-- an order under which keys that tie are equal, and a list whose elements are entries of a key and a value
module _ {K X Y : Type 0} (R : K → K → Ordering) (o : IsTotalOrder R) (same : (x y : K) → R x y ≡ Equal → x ≡ y) (entry : Y → K × X) where
  turned : (a b : K) → R a b ≡ Less → R b a ≡ Greater
  turned a b h = o.antisymm b a ∙ ap ordering_reverse h

  -- a key below all entries is below the one at a place
  below_at : (k key : K) (ys : List Y) (i : ℕ) → below_all R k (map entry ys) ≡ true → IsAt (map entry ys) key i → R k key ≡ Less
  below_at k key [] i h at = absurd at
  below_at k key (y ∷ ys) zero h at = ap (R k) (sym at) ∙ is_less _ (and_parts _ _ h).0
  below_at k key (y ∷ ys) (suc i) h at = below_at k key ys i (and_parts _ _ h).1 at

  above_at : (key : K) (y : Y) (ys : List Y) (i : ℕ) → is_sorted R (map entry (y ∷ ys)) ≡ true → IsAt (map entry ys) key i → R key (entry y).0 ≡ Greater
  above_at key y ys i h at = turned (entry y).0 key (below_at (entry y).0 key ys i (and_parts _ _ h).0 at)

  tied_at : (key : K) (y : Y) → (entry y).0 ≡ key → R key (entry y).0 ≡ Equal
  tied_at key y at = ap (R key) at ∙ tied_itself o key

  below_more : (k l : K) (es : List (K × X)) → R k l ≡ Less → below_all R l es ≡ true → below_all R k es ≡ true
  below_more k l [] less h = refl
  below_more k l (e ∷ es) less h = rw (o.trans k l e.0 less (is_less _ (and_parts _ _ h).0)) (below_more k l es less (and_parts _ _ h).1)

  -- in a list in order, a key below the first is below all
  below_first : (key : K) (y : Y) (ys : List Y) → is_sorted R (map entry (y ∷ ys)) ≡ true → R key (entry y).0 ≡ Less → below_all R key (map entry (y ∷ ys)) ≡ true
  below_first key y ys h less = rw less (below_more key (entry y).0 (map entry ys) less (and_parts _ _ h).0)

  module _ (y : Y) where
    unfoldable put_by : Ordering → Y → List Y → List (K × X)
    put_by r z ys = by_order r (entry y ∷ map entry (z ∷ ys)) (((entry z).0, (entry y).1) ∷ map entry ys) (entry z ∷ put R (entry y).0 (entry y).1 (map entry ys))

    pub put_over : (ys : List Y) (i : ℕ) → is_sorted R (map entry ys) ≡ true → IsAt (map entry ys) (entry y).0 i → map entry (slice_set ys i y) ≡ put R (entry y).0 (entry y).1 (map entry ys)
    unfolding put_by
    put_over [] i h at = absurd at
    put_over (z ∷ ys) zero h at = ap (λ k. (k, (entry y).1) ∷ map entry ys) (sym at) ∙ ap (λ r. put_by r z ys) (sym (tied_at (entry y).0 z at))
    put_over (z ∷ ys) (suc i) h at =
        ap (λ l. entry z ∷ l) (put_over ys i (and_parts _ _ h).1 at) ∙ ap (λ r. put_by r z ys) (sym (above_at (entry y).0 z ys i h at))

    pub put_between : (ys : List Y) (i : ℕ) → IsGap R (map entry ys) (entry y).0 i → map entry (insert ys i y) ≡ put R (entry y).0 (entry y).1 (map entry ys)
    unfolding put_by
    put_between [] i gap = ap (λ k. map entry (insert [] k y)) gap
    put_between (z ∷ ys) zero gap = ap (λ r. put_by r z ys) (sym gap)
    put_between (z ∷ ys) (suc i) gap = ap (λ l. entry z ∷ l) (put_between ys i gap.1) ∙ ap (λ r. put_by r z ys) (sym (turned (entry z).0 (entry y).0 gap.0))

  module _ (key : K) where
    unfoldable found_by : Ordering → Y → List Y → Option X
    found_by r y ys = cond (is_eq r) (Some (entry y).1) (find R key (map entry ys))

    pub found_at : (ys : List Y) (i : ℕ) (d : Y) → is_sorted R (map entry ys) ≡ true → IsAt (map entry ys) key i → find R key (map entry ys) ≡ Some (entry (get_or ys i d)).1
    unfolding found_by
    found_at [] i d h at = absurd at
    found_at (y ∷ ys) zero d h at = ap (λ r. found_by r y ys) (tied_at key y at)
    found_at (y ∷ ys) (suc i) d h at = ap (λ r. found_by r y ys) (above_at key y ys i h at) ∙ found_at ys i d (and_parts _ _ h).1 at

    absent_above : (es : List (K × X)) → below_all R key es ≡ true → find R key es ≡ None
    absent_above [] h = refl
    absent_above (e ∷ es) h = ap (λ r. cond (is_eq r) (Some e.1) (find R key es)) (is_less _ (and_parts _ _ h).0) ∙ absent_above es (and_parts _ _ h).1

    pub absent_gap : (ys : List Y) (i : ℕ) → is_sorted R (map entry ys) ≡ true → IsGap R (map entry ys) key i → find R key (map entry ys) ≡ None
    unfolding found_by
    absent_gap [] i h gap = refl
    absent_gap (y ∷ ys) zero h gap = absent_above (map entry (y ∷ ys)) (below_first key y ys h gap)
    absent_gap (y ∷ ys) (suc i) h gap = ap (λ r. found_by r y ys) (turned (entry y).0 key gap.0) ∙ absent_gap ys i (and_parts _ _ h).1 gap.1

    unfoldable others : List (K × X) → List (K × X)
    others = where_key R (λ x. not (eq_by_cmp R key x))

    unfoldable kept_by : Ordering → K × X → List (K × X) → List (K × X)
    kept_by r e es = cond (not (is_eq r)) (e ∷ others es) (others es)

    kept_above : (es : List (K × X)) → below_all R key es ≡ true → others es ≡ es
    unfolding kept_by others
    kept_above [] h = refl
    kept_above (e ∷ es) h = ap (λ r. kept_by r e es) (is_less _ (and_parts _ _ h).0) ∙ ap (λ l. e ∷ l) (kept_above es (and_parts _ _ h).1)

    pub taken_at : (ys : List Y) (i : ℕ) → is_sorted R (map entry ys) ≡ true → IsAt (map entry ys) key i → map entry (remove ys i) ≡ where_key R (λ x. not (eq_by_cmp R key x)) (map entry ys)
    unfolding kept_by others
    taken_at [] i h at = absurd at
    taken_at (y ∷ ys) zero h at =
        sym (kept_above (map entry ys) (subst (λ k. below_all R k (map entry ys) ≡ true) at (and_parts _ _ h).0)) ∙ ap (λ r. kept_by r (entry y) (map entry ys)) (sym (tied_at key y at))
    taken_at (y ∷ ys) (suc i) h at = ap (λ l. entry y ∷ l) (taken_at ys i (and_parts _ _ h).1 at) ∙ ap (λ r. kept_by r (entry y) (map entry ys)) (sym (above_at key y ys i h at))

    pub taken_gap : (ys : List Y) (i : ℕ) → is_sorted R (map entry ys) ≡ true → IsGap R (map entry ys) key i → map entry ys ≡ where_key R (λ x. not (eq_by_cmp R key x)) (map entry ys)
    unfolding kept_by others
    taken_gap [] i h gap = refl
    taken_gap (y ∷ ys) zero h gap = sym (kept_above (map entry (y ∷ ys)) (below_first key y ys h gap))
    taken_gap (y ∷ ys) (suc i) h gap =
        ap (λ l. entry y ∷ l) (taken_gap ys i (and_parts _ _ h).1 gap.1) ∙ ap (λ r. kept_by r (entry y) (map entry ys)) (sym (turned (entry y).0 key gap.0))

    at_from_held : (ys : List Y) (i : ℕ) (d : Y) → i < length ys → R (entry (get_or ys i d)).0 key ≡ Equal → IsAt (map entry ys) key i
    at_from_held [] i d within is = absurd (omega arith)
    at_from_held (y ∷ ys) zero d within is = same _ key is
    at_from_held (y ∷ ys) (suc i) d within is = at_from_held ys i d (omega arith) is

    gap_from_parts : (ys : List Y) (i : ℕ) (d : Y) → i ≤ length ys → ((k : ℕ) → k < i → R (entry (get_or ys k d)).0 key ≡ Less) →
        ((k : ℕ) → i ≤ k → k < length ys → R (entry (get_or ys k d)).0 key ≡ Greater) → IsGap R (map entry ys) key i
    gap_from_parts [] i d within low high = omega arith
    gap_from_parts (y ∷ ys) zero d within low high = o.antisymm key (entry y).0 ∙ ap ordering_reverse (high 0 (omega arith) (omega arith))
    gap_from_parts (y ∷ ys) (suc i) d within low high = (
      low 0 (omega arith),
      gap_from_parts ys i d (omega arith) (λ k h. low (suc k) (omega arith)) (λ k h g. high (suc k) (omega arith) (omega arith)),
    )

    -- a lower key compares no higher
    steps : (a b : K) (r s : Ordering) → R a b ≡ Less → R a key ≡ r → R b key ≡ s → ordering_index r ≤ ordering_index s
    steps a b Less s less is js = least s
    steps a b Equal s less is js =
        let e : s ≡ Greater = sym js ∙ turned key b (ap (λ k. R k b) (sym (same a key is)) ∙ less) in
        subst (λ t. 1 ≤ ordering_index t) (sym e) (omega arith)
    steps a b Greater s less is js =
        let e : s ≡ Greater = sym js ∙ turned key b (o.trans key a b (o.antisymm key a ∙ ap ordering_reverse is) less) in
        subst (λ t. 2 ≤ ordering_index t) (sym e) (omega arith)

    index_below : (k : K) (ys : List Y) (j : ℕ) (d : Y) → below_all R k (map entry ys) ≡ true → j < length ys → R k (entry (get_or ys j d)).0 ≡ Less
    index_below k [] j d all within = absurd (omega arith)
    index_below k (y ∷ ys) zero d all within = is_less _ (and_parts _ _ all).0
    index_below k (y ∷ ys) (suc j) d all within = index_below k ys j d (and_parts _ _ all).1 (omega arith)

    searchable : (ys : List Y) → is_sorted R (map entry ys) ≡ true → IsNonDecreasingBy (λ y. ordering_index (R (entry y).0 key)) ys
    searchable [] h i j d below within = absurd (omega arith)
    searchable (y ∷ ys) h zero zero d below within = omega arith
    searchable (y ∷ ys) h zero (suc j) d below within = steps (entry y).0 (entry (get_or ys j d)).0 _ _ (index_below (entry y).0 ys j d (and_parts _ _ h).0 (omega arith)) refl refl
    searchable (y ∷ ys) h (suc i) zero d below within = absurd (omega arith)
    searchable (y ∷ ys) h (suc i) (suc j) d below within = searchable ys (and_parts _ _ h).1 i j d (omega arith) (omega arith)

    -- what std's binary search says, as a place or a gap
    pub place_found : (ys : List Y) (r : Result ℕ ℕ) → IsSearchInRange r (length ys) → IsBinarySearchResult (λ y. R (entry y).0 key) ys r → IfOk r (IsAt (map entry ys) key)
    place_found [] (Ok i) within held = absurd (omega arith)
    place_found (y ∷ ys) (Ok i) within held = at_from_held (y ∷ ys) i y within (held y)
    place_found ys (Err i) within held = tt

    pub gap_found : (ys : List Y) (r : Result ℕ ℕ) → is_sorted R (map entry ys) ≡ true → IsSearchInRange r (length ys) → IsBinarySearchResult (λ y. R (entry y).0 key) ys r →
        IfErr r (IsGap R (map entry ys) key)
    gap_found ys (Ok i) rises within held = tt
    gap_found [] (Err i) rises within held = omega arith
    gap_found (y ∷ ys) (Err i) rises within held =
        let parts : IsPartitionPoint (λ y. R (entry y).0 key ≡ Less) (λ y. R (entry y).0 key ≡ Greater) (y ∷ ys) i = held (searchable (y ∷ ys) rises) in
        gap_from_parts (y ∷ ys) i y within (λ k h. parts.0 k y (omega arith) h) (λ k h g. parts.1 k y h g)
