-- What a longer history has published.
use Rattle.std.proofs.Common.{◌≡◌, ◌+◌, ◌≤◌, ◌⊎◌, inl, inr, ⊎_elim, List, [], ◌∷◌, ◌++◌, length, refl, ap, sym, subst, ◌∙◌, arith, length-append}
use mathlib.Core.List.{IsPrefix}
use native.Mathlib.Decide.{dec_le}
use Rattle.dup_model.specs.Editions.{Bundle}
use Rattle.dup_live.specs.declared.deed.Deed.{Deed}
use Rattle.dup_live.specs.declared.deed.Deed.TheVariants.{Try, Done}
use Rattle.dup_live.specs.Deeds.{told_from, published, tried}
use Rattle.dup_live.proofs.Fronts.{prefix_self, prefix_trans, prefix_shorter}

pub told_from-append : (c d : List Bundle) (xs ys : List Deed) → told_from c d (xs ++ ys) ≡ told_from (told_from c d xs).0 (told_from c d xs).1 ys
told_from-append c d [] ys = refl
told_from-append c d (Try r ∷ xs) ys = told_from-append c (c ++ r ∷ []) xs ys
told_from-append c d (Done ∷ xs) ys = told_from-append d d xs ys

pub told_from-grows : (c d : List Bundle) (es : List Deed) → IsPrefix c d → IsPrefix c (told_from c d es).0 × IsPrefix (told_from c d es).0 (told_from c d es).1
told_from-grows c d [] p = (prefix_self c, p)
told_from-grows c d (Try r ∷ es) p = told_from-grows c (c ++ r ∷ []) es (r ∷ [], refl)
told_from-grows c d (Done ∷ es) p = let h = told_from-grows d d es (prefix_self d) in (prefix_trans c d (told_from d d es).0 p h.0, h.1)

pub published_tried : (es : List Deed) → IsPrefix (published es) (tried es)
published_tried es = (told_from-grows [] [] es ([], refl)).1

pub published-append : (xs ys : List Deed) → IsPrefix (published xs) (published (xs ++ ys))
published-append xs ys = subst (λ (t : List Bundle × List Bundle). IsPrefix (published xs) t.0) (sym (told_from-append [] [] xs ys)) (told_from-grows (published xs) (tried xs) ys (published_tried xs)).0

pub published_grows : (xs ys : List Deed) → IsPrefix xs ys → IsPrefix (published xs) (published ys)
published_grows xs ys p = subst (λ (zs : List Deed). IsPrefix (published xs) (published zs)) p.1 (published-append xs p.0)

pub after_try : (xs : List Deed) (r : Bundle) → told_from [] [] (xs ++ Try r ∷ []) ≡ (published xs, published xs ++ r ∷ [])
after_try xs r = told_from-append [] [] xs (Try r ∷ [])

pub after_done : (xs : List Deed) → told_from [] [] (xs ++ Done ∷ []) ≡ (tried xs, tried xs)
after_done xs = told_from-append [] [] xs (Done ∷ [])

-- one deed more has published no more than what was tried
one_more : (xs : List Deed) (e : Deed) → IsPrefix (published (xs ++ e ∷ [])) (tried xs)
one_more xs (Try r) = subst (λ (t : List Bundle × List Bundle). IsPrefix t.0 (tried xs)) (sym (after_try xs r)) (published_tried xs)
one_more xs Done = subst (λ (t : List Bundle × List Bundle). IsPrefix t.0 (tried xs)) (sym (after_done xs)) (prefix_self (tried xs))

one_behind : (xs ys rest : List Deed) → ys ++ rest ≡ xs → length rest ≡ 1 → IsPrefix (published xs) (tried ys)
one_behind xs ys [] is n = absurd cc
one_behind xs ys (e ∷ []) is n = subst (λ (zs : List Deed). IsPrefix (published zs) (tried ys)) is (one_more ys e)
one_behind xs ys (e ∷ f ∷ rest) is n = absurd (omega arith)

by_length : (xs ys both : List Deed) → IsPrefix xs both → IsPrefix ys both → (length xs ≤ length ys) ⊎ (length xs ≡ length ys + 1) → IsPrefix (published xs) (tried ys)
by_length xs ys both p q le = ⊎_elim
    (λ (l : length xs ≤ length ys). prefix_trans (published xs) (published ys) (tried ys) (published_grows xs ys (prefix_shorter xs ys both p q l)) (published_tried ys))
    (λ (e : length xs ≡ length ys + 1). let r = prefix_shorter ys xs both q p (omega arith) in one_behind xs ys r.0 r.1 (omega (arith, sym (ap length r.1) ∙ length-append ys r.0)))
    le

-- of two beginnings of one history, what the first published begins what the second tried, if that is one deed shorter at most
pub reached : (xs ys both : List Deed) → IsPrefix xs both → IsPrefix ys both → length xs ≤ length ys + 1 → IsPrefix (published xs) (tried ys)
reached xs ys both p q le = by_length xs ys both p q (elim (dec_le (length xs) (length ys)) [ yes low ↦ inl low | no high ↦ inr (omega arith) ])

pub published_try : (xs ys : List Deed) (r : Bundle) → ys ≡ xs ++ Try r ∷ [] → published ys ≡ published xs
published_try xs ys r is = ap published is ∙ ap (λ (t : List Bundle × List Bundle). t.0) (after_try xs r)

pub tried_try : (xs ys : List Deed) (r : Bundle) → ys ≡ xs ++ Try r ∷ [] → tried ys ≡ published xs ++ r ∷ []
tried_try xs ys r is = ap tried is ∙ ap (λ (t : List Bundle × List Bundle). t.1) (after_try xs r)

pub published_done : (xs ys : List Deed) → ys ≡ xs ++ Done ∷ [] → published ys ≡ tried xs
published_done xs ys is = ap published is ∙ ap (λ (t : List Bundle × List Bundle). t.0) (after_done xs)
