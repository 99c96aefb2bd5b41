-- Two lists with the same elements are the same once they are in order.
use Rattle.std.proofs.Common.{◌≡◌, inl, inr, Bool, true, false, ◌||◌, List, [], ◌∷◌, refl, sym, ap, ◌∙◌}
use Rattle.std.specs.List.{list_any, AllByRecursion}
use Rattle.std.specs.Ordering.{eq_by_cmp, ordering_reverse}
use Rattle.std.specs.declared.cmp.Ordering.{Ordering}
use Rattle.std.specs.declared.cmp.Ordering.TheVariants.{Less, Equal, Greater}
use Rattle.std.specs.Cmp.{IsTotalOrder, Equal-is, eq_by_cmp_equiv}
use Rattle.std.proofs.lemmas.Bool.{true≢false, cases_Bool, or_cases, or_left}
use Rattle.dup_names.specs.Words.{put, put_at, in_order}
use Rattle.dup_model.proofs.Ordering.{any_in_order}

less_greater : Less ≡ Greater → ⊥
less_greater is = cc

module _ {X : Type 0} (cmp : X → X → Ordering) (total : IsTotalOrder cmp) (tied : (x y : X) → cmp x y ≡ Equal → x ≡ y) where
  abbrev pub Below : X → List X → Type 0
  Below x ys = AllByRecursion (λ y. cmp x y ≡ Less) ys

  abbrev pub Rises : List X → Type 0
  Rises [] = Unit {0}
  Rises (x ∷ xs) = Below x xs × Rises xs

  abbrev member : X → List X → Bool
  member z xs = list_any (eq_by_cmp cmp z) xs

  below_more : (x y : X) (ys : List X) → cmp x y ≡ Less → Below y ys → Below x ys
  below_more x y [] h all = tt
  below_more x y (z ∷ zs) h all = (total.trans x y z h all.0, below_more x y zs h all.1)

  below_put_at : (r : Ordering) (z x y : X) (ys rest : List X) → cmp z x ≡ Less → Below z (y ∷ ys) → Below z rest → Below z (put_at r x y ys rest)
  below_put_at Less z x y ys rest h all more = (h, all)
  below_put_at Equal z x y ys rest h all more = all
  below_put_at Greater z x y ys rest h all more = (all.0, more)

  below_put : (z x : X) (ys : List X) → cmp z x ≡ Less → Below z ys → Below z (put cmp x ys)
  below_put z x [] h all = (h, tt)
  below_put z x (y ∷ ys) h all = below_put_at (cmp x y) z x y ys (put cmp x ys) h all (below_put z x ys h all.1)

  rises_put_at : (r : Ordering) (x y : X) (ys rest : List X) → cmp x y ≡ r → Rises (y ∷ ys) → Rises rest → (cmp y x ≡ Less → Below y rest) → Rises (put_at r x y ys rest)
  rises_put_at Less x y ys rest is h more below = ((is, below_more x y ys is h.0), h)
  rises_put_at Equal x y ys rest is h more below = h
  rises_put_at Greater x y ys rest is h more below = (below (total.antisymm y x ∙ ap ordering_reverse is), more)

  rises_put : (x : X) (ys : List X) → Rises ys → Rises (put cmp x ys)
  rises_put x [] h = (tt, tt)
  rises_put x (y ∷ ys) h = rises_put_at (cmp x y) x y ys (put cmp x ys) refl h (rises_put x ys h.1) (λ less. below_put y x ys less h.0)

  pub rises_in_order : (xs : List X) → Rises (in_order cmp xs)
  rises_in_order [] = tt
  rises_in_order (x ∷ xs) = rises_put x (in_order cmp xs) (rises_in_order xs)

  one_of : (z x : X) → eq_by_cmp cmp z x ≡ true → z ≡ x
  one_of z x h = tied z x ((Equal-is (cmp z x)).0 h)

  itself : (x : X) → eq_by_cmp cmp x x ≡ true
  itself x = (eq_by_cmp_equiv total).refl x

  less_of : (y x : X) (ys : List X) → Below y ys → member x ys ≡ true → cmp y x ≡ Less
  less_of y x [] all inside = absurd (true≢false (sym inside))
  less_of y x (z ∷ zs) all inside = elim (or_cases (eq_by_cmp cmp x z) (member x zs) inside) [
    | inl here ↦ ap (cmp y) (one_of x z here) ∙ all.0
    | inr later ↦ less_of y x zs all.1 later
  ]

  pub not_both : (x y : X) → cmp x y ≡ Less → cmp y x ≡ Less → ⊥
  not_both x y h k = less_greater (sym h ∙ total.antisymm x y ∙ ap ordering_reverse k)

  not_below : (x : X) (xs : List X) → Below x xs → member x xs ≡ false
  not_below x xs all = elim (cases_Bool (member x xs)) [
    | inl inside ↦ absurd (not_both x x (less_of x x xs all inside) (less_of x x xs all inside))
    | inr out ↦ out
  ]

  same_first : (x y : X) (xs ys : List X) → Rises (x ∷ xs) → Rises (y ∷ ys) → ((z : X) → member z (x ∷ xs) ≡ member z (y ∷ ys)) → x ≡ y
  same_first x y xs ys r s same = elim (or_cases (eq_by_cmp cmp x y) (member x ys) (sym (same x) ∙ or_left (eq_by_cmp cmp x x) (member x xs) (itself x))) [
    | inl tie ↦ one_of x y tie
    | inr x_later ↦ elim (or_cases (eq_by_cmp cmp y x) (member y xs) (same y ∙ or_left (eq_by_cmp cmp y y) (member y ys) (itself y))) [
      | inl tie ↦ sym (one_of y x tie)
      | inr y_later ↦ absurd (not_both x y (less_of x y xs r.0 y_later) (less_of y x ys s.0 x_later))
    ]
  ]

  same_rest : (x y z : X) (xs ys : List X) → x ≡ y → Rises (x ∷ xs) → Rises (y ∷ ys) → member z (x ∷ xs) ≡ member z (y ∷ ys) → member z xs ≡ member z ys
  same_rest x y z xs ys one r s same = elim (cases_Bool (eq_by_cmp cmp z x)) [
    | inl tie ↦
        let at : z ≡ x = one_of z x tie in
        ap (λ v. member v xs) at ∙ not_below x xs r.0 ∙ sym (ap (λ v. member v ys) (at ∙ one) ∙ not_below y ys s.0)
    | inr apart ↦
        sym (ap (λ b. b || member z xs) apart) ∙ same ∙ ap (λ b. b || member z ys) (ap (eq_by_cmp cmp z) (sym one) ∙ apart)
  ]

  same_rising : (xs ys : List X) → Rises xs → Rises ys → ((z : X) → member z xs ≡ member z ys) → xs ≡ ys
  same_rising [] [] r s same = refl
  same_rising [] (y ∷ ys) r s same = absurd (true≢false (sym (or_left (eq_by_cmp cmp y y) (member y ys) (itself y)) ∙ sym (same y)))
  same_rising (x ∷ xs) [] r s same = absurd (true≢false (sym (or_left (eq_by_cmp cmp x x) (member x xs) (itself x)) ∙ same x))
  same_rising (x ∷ xs) (y ∷ ys) r s same =
      let one : x ≡ y = same_first x y xs ys r s same in
      λ i. one i ∷ same_rising xs ys r.1 s.1 (λ z. same_rest x y z xs ys one r s (same z)) i

  member_in_order : (z : X) (xs : List X) → member z (in_order cmp xs) ≡ member z xs
  member_in_order z xs = any_in_order cmp (eq_by_cmp cmp z) (λ x y tie. ap (eq_by_cmp cmp z) (tied x y tie)) xs

  pub same_in_order : (xs ys : List X) → ((z : X) → member z xs ≡ member z ys) → in_order cmp xs ≡ in_order cmp ys
  same_in_order xs ys same =
      same_rising (in_order cmp xs) (in_order cmp ys) (rises_in_order xs) (rises_in_order ys) (λ z. member_in_order z xs ∙ same z ∙ sym (member_in_order z ys))
