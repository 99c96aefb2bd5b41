-- Lists of objects in order, which are told by what is in them.
use Rattle.std.proofs.Common.{◌≡◌, Bool, true, false, not, cond, ◌||◌, ◌&&◌, List, [], ◌∷◌, ◌++◌, refl, sym, ap, subst, ◌∙◌}
use Rattle.std.specs.List.{AllByRecursion, filter, flat_map, list_any}
use Rattle.std.specs.List.Sorted.{IsStrictlySortedBy}
use Rattle.std.specs.Ordering.{eq_by_cmp}
use Rattle.std.specs.Cmp.{Equal-is, eq_by_cmp_equiv, both_ways}
use Rattle.std.specs.declared.cmp.Ordering.{Ordering}
use Rattle.std.specs.declared.cmp.Ordering.TheVariants.{Less}
use Rattle.dup_names.specs.Order.{obj_cmp}
use Rattle.dup_names.specs.declared.object.Obj.{Obj}
use Rattle.dup_names.specs.Words.{put, put_at, in_order}
use Rattle.dup_model.specs.Content.{Content}
use Rattle.dup_model.specs.Looks.{reached_from, uses}
use Rattle.dup_model.specs.Pages.{pages, live}
use Rattle.dup_model.specs.Found.{found}
use Rattle.dup_names.specs.Objects.{same_obj, is_in}
use Rattle.dup_model.specs.Touched.{without}
use Rattle.dup_names.proofs.ObjectOrder.{obj_same, obj_itself, obj_tied, obj_total}
use Rattle.dup_model.proofs.Earlier.{in_ordered}
use Rattle.dup_model.proofs.Objects.{in_filter}
use Rattle.dup_model.proofs.Ordering.{any_append}
use Rattle.dup_model.proofs.Canonical.{Rises, rises_in_order, same_in_order}

abbrev pub IsOrdered : List Obj → Type 0
IsOrdered os = in_order obj_cmp os ≡ os

put_first : (x : Obj) (ys : List Obj) → AllByRecursion (λ y. obj_cmp x y ≡ Less) ys → put obj_cmp x ys ≡ x ∷ ys
put_first x [] below = refl
put_first x (y ∷ ys) below = ap (λ (r : Ordering). put_at r x y ys (put obj_cmp x ys)) below.0

rises_stays : (xs : List Obj) → Rises obj_cmp obj_total obj_tied xs → IsOrdered xs
rises_stays [] h = refl
rises_stays (x ∷ xs) h = ap (put obj_cmp x) (rises_stays xs h.1) ∙ put_first x xs h.0

pub sorted_stays : (xs : List Obj) → IsStrictlySortedBy obj_cmp xs → IsOrdered xs
unfolding IsStrictlySortedBy
sorted_stays [] h = refl
sorted_stays (x ∷ xs) h = ap (put obj_cmp x) (sorted_stays xs h.1) ∙ put_first x xs h.0

rises : (xs : List Obj) → IsOrdered xs → Rises obj_cmp obj_total obj_tied xs
rises xs h = subst (Rises obj_cmp obj_total obj_tied) h (rises_in_order obj_cmp obj_total obj_tied xs)

below_filter : (p : Obj → Bool) (x : Obj) (xs : List Obj) → AllByRecursion (λ y. obj_cmp x y ≡ Less) xs → AllByRecursion (λ y. obj_cmp x y ≡ Less) (filter p xs)
below_filter p x [] h = tt
below_filter p x (y ∷ ys) h = by_test (p y) (below_filter p x ys h.1)
  where
    by_test : (b : Bool) → AllByRecursion (λ y. obj_cmp x y ≡ Less) (filter p ys) → AllByRecursion (λ y. obj_cmp x y ≡ Less) (cond b (y ∷ filter p ys) (filter p ys))
    by_test true rest = (h.0, rest)
    by_test false rest = rest

rises_filter : (p : Obj → Bool) (xs : List Obj) → Rises obj_cmp obj_total obj_tied xs → Rises obj_cmp obj_total obj_tied (filter p xs)
rises_filter p [] h = tt
rises_filter p (x ∷ xs) h = by_test (p x) (rises_filter p xs h.1)
  where
    by_test : (b : Bool) → Rises obj_cmp obj_total obj_tied (filter p xs) → Rises obj_cmp obj_total obj_tied (cond b (x ∷ filter p xs) (filter p xs))
    by_test true rest = (below_filter p x xs h.0, rest)
    by_test false rest = rest

pub ordered_in_order : (xs : List Obj) → IsOrdered (in_order obj_cmp xs)
ordered_in_order xs = rises_stays (in_order obj_cmp xs) (rises_in_order obj_cmp obj_total obj_tied xs)

pub ordered_filter : (p : Obj → Bool) (xs : List Obj) → IsOrdered xs → IsOrdered (filter p xs)
ordered_filter p xs h = rises_stays (filter p xs) (rises_filter p xs (rises xs h))

pub tied_obj : (x y : Obj) → eq_by_cmp obj_cmp x y ≡ same_obj x y
tied_obj x y = both_ways (eq_by_cmp obj_cmp x y) (same_obj x y)
    (λ tie. ap (same_obj x) (sym (obj_tied x y ((Equal-is (obj_cmp x y)).0 tie))) ∙ obj_itself x)
    (λ h. ap (eq_by_cmp obj_cmp x) (sym (obj_same x y h)) ∙ (eq_by_cmp_equiv obj_total).refl x)

pub member_is : (x : Obj) (os : List Obj) → list_any (eq_by_cmp obj_cmp x) os ≡ is_in os x
member_is x [] = refl
member_is x (o ∷ os) = λ i. tied_obj x o i || member_is x os i

pub same_in : (xs ys : List Obj) → ((x : Obj) → is_in xs x ≡ is_in ys x) → in_order obj_cmp xs ≡ in_order obj_cmp ys
same_in xs ys same = same_in_order obj_cmp obj_total obj_tied xs ys (λ x. member_is x xs ∙ same x ∙ sym (member_is x ys))

-- lists in order with the same objects are the same
pub same_ordered : (xs ys : List Obj) → IsOrdered xs → IsOrdered ys → ((x : Obj) → is_in xs x ≡ is_in ys x) → xs ≡ ys
same_ordered xs ys h k same = sym h ∙ same_in xs ys same ∙ k

pub in_without : (test : Obj → Bool) (os : List Obj) (x : Obj) → is_in (without test os) x ≡ (is_in os x && not (test x))
in_without test os x = in_filter (λ o. not (test o)) os x

pub in_both : (xs ys : List Obj) (x : Obj) → is_in (in_order obj_cmp (xs ++ ys)) x ≡ (is_in xs x || is_in ys x)
in_both xs ys x = in_ordered (xs ++ ys) x ∙ any_append (same_obj x) xs ys

pub ordered_found : (c : Content) (done : List Obj) → IsOrdered (found c done)
ordered_found c done = ordered_in_order (flat_map (λ p. reached_from c (is_in done) p.1) (pages c))

pub ordered_live : (c : Content) → IsOrdered (live c)
ordered_live c = ordered_in_order (flat_map (λ p. uses c p.1) (pages c))

-- once one object is put in, or taken out
pub ordered_put : (o : Obj) (os : List Obj) → IsOrdered os → put obj_cmp o os ≡ in_order obj_cmp (o ∷ os)
ordered_put o os h = ap (put obj_cmp o) (sym h)

pub same_turned : (x y : Obj) → same_obj x y ≡ same_obj y x
same_turned x y = both_ways (same_obj x y) (same_obj y x)
    (λ h. ap (λ z. same_obj z x) (sym (obj_same x y h)) ∙ obj_itself x)
    (λ h. ap (λ z. same_obj z y) (sym (obj_same y x h)) ∙ obj_itself y)
