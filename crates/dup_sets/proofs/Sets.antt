-- Sets of objects that lists of objects are put into and taken out of.
use Rattle.std.proofs.Common.{◌≡◌, ℕ, ◌+◌, ◌<◌, Bool, true, false, not, cond, ◌||◌, ◌&&◌, inl, inr, List, [], ◌∷◌, ◌++◌, length, take, drop, get_or, refl, sym, ap, ◌∙◌, arith}
use Rattle.std.proofs.lemmas.List.{take_more, take_all, take-append-drop}
use Rattle.std.proofs.lemmas.Bool.{true≢false, cases_Bool, or_left}
use Rattle.dup_names.specs.Order.{obj_cmp}
use Rattle.dup_names.specs.Words.{in_order}
use Rattle.dup_names.specs.declared.object.Obj.{Obj}
use Rattle.dup_names.specs.Objects.{same_obj, is_in}
use Rattle.dup_model.specs.Touched.{without}
use Rattle.dup_model.proofs.Objects.{filter_same}
use Rattle.dup_names.proofs.ObjectOrder.{obj_same}
use Rattle.dup_model.proofs.Reached.{or_right}
use Rattle.dup_names.proofs.ObjectOrder.{obj_itself}
use Rattle.dup_model.proofs.Earlier.{in_ordered}
use Rattle.dup_model.proofs.Ordering.{any_append}
use Rattle.dup_machine.proofs.InOrder.{IsOrdered, same_in, same_ordered, ordered_filter, ordered_in_order, in_without, in_both, same_turned}
use Rattle.dup_sets.proofs.Trees.{all_kept}

pub or_none : (b : Bool) → (b || false) ≡ b
or_none true = refl
or_none false = refl

pub without_none : (os : List Obj) → without (is_in []) os ≡ os
without_none os = all_kept (is_in []) os (λ x h. refl)

pub without_twice : (f g : Obj → Bool) (os : List Obj) → without f (without g os) ≡ without (λ x. g x || f x) os
without_twice f g [] = refl
without_twice f g (o ∷ os) = by_tests (g o) (f o) refl (without_twice f g os)
  where
    by_tests : (b d : Bool) → f o ≡ d → without f (without g os) ≡ without (λ x. g x || f x) os →
        without f (cond (not b) (o ∷ without g os) (without g os)) ≡ cond (not (b || d)) (o ∷ without (λ x. g x || f x) os) (without (λ x. g x || f x) os)
    by_tests true d is more = more
    by_tests false true is more = ap (λ d. cond (not d) (o ∷ without f (without g os)) (without f (without g os))) is ∙ more
    by_tests false false is more = ap (λ d. cond (not d) (o ∷ without f (without g os)) (without f (without g os))) is ∙ ap (λ l. o ∷ l) more

pub without_same : (f g : Obj → Bool) (os : List Obj) → ((x : Obj) → is_in os x ≡ true → f x ≡ g x) → without f os ≡ without g os
without_same f g os same = filter_same (λ x. not (f x)) (λ x. not (g x)) os (λ x h. ap not (same x h))

module _ (objs : List Obj) (i : ℕ) (o : Obj) (below : i < length objs) (is : o ≡ get_or objs i o) where
  pub taken_more : (x : Obj) → is_in (take (i + 1) objs) x ≡ (is_in (take i objs) x || same_obj x o)
  taken_more x =
      ap (λ l. is_in l x) (take_more objs i o below ∙ ap (λ y. take i objs ++ y ∷ []) (sym is))
      ∙ any_append (same_obj x) (take i objs) (o ∷ [])
      ∙ ap (λ b. is_in (take i objs) x || b) (or_none (same_obj x o))

  pub without_more : (os : List Obj) → without (same_obj o) (without (is_in (take i objs)) os) ≡ without (is_in (take (i + 1) objs)) os
  without_more os =
      without_twice (same_obj o) (is_in (take i objs)) os
      ∙ without_same (λ x. is_in (take i objs) x || same_obj o x) (is_in (take (i + 1) objs)) os
      (λ x h. ap (λ b. is_in (take i objs) x || b) (same_turned o x) ∙ sym (taken_more x))

  pub added_more : (os : List Obj) → in_order obj_cmp (o ∷ in_order obj_cmp (take i objs ++ os)) ≡ in_order obj_cmp (take (i + 1) objs ++ os)
  added_more os = same_in (o ∷ in_order obj_cmp (take i objs ++ os)) (take (i + 1) objs ++ os) (λ x.
      ap (λ b. same_obj x o || b) (in_both (take i objs) os x)
      ∙ turn (same_obj x o) (is_in (take i objs) x) (is_in os x)
      ∙ sym (any_append (same_obj x) (take (i + 1) objs) os ∙ ap (λ b. b || is_in os x) (taken_more x)))
    where
      turn : (a b d : Bool) → (a || (b || d)) ≡ ((b || a) || d)
      turn true true d = refl
      turn true false d = refl
      turn false true d = refl
      turn false false d = refl

pub taken_within : (objs : List Obj) (i : ℕ) (x : Obj) → is_in (take i objs) x ≡ true → is_in objs x ≡ true
taken_within objs i x h =
    ap (λ l. is_in l x) (sym (take-append-drop i objs)) ∙ any_append (same_obj x) (take i objs) (drop i objs) ∙ or_left (is_in (take i objs) x) (is_in (drop i objs) x) h

-- what was put in is taken out again
pub added_back : (objs : List Obj) (i : ℕ) (os : List Obj) → IsOrdered os → ((x : Obj) → is_in objs x ≡ true → is_in os x ≡ false) →
    without (is_in objs) (in_order obj_cmp (take i objs ++ os)) ≡ os
added_back objs i os h apart = same_ordered (without (is_in objs) (in_order obj_cmp (take i objs ++ os))) os
    (ordered_filter (λ x. not (is_in objs x)) (in_order obj_cmp (take i objs ++ os)) (ordered_in_order (take i objs ++ os))) h
    (λ x. in_without (is_in objs) (in_order obj_cmp (take i objs ++ os)) x ∙ ap (λ b. b && not (is_in objs x)) (in_both (take i objs) os x) ∙ at x)
  where
    at : (x : Obj) → ((is_in (take i objs) x || is_in os x) && not (is_in objs x)) ≡ is_in os x
    at x = elim (cases_Bool (is_in objs x)) [
      | inl there ↦ ap (λ b. (is_in (take i objs) x || is_in os x) && not b) there ∙ and_none (is_in (take i objs) x || is_in os x) ∙ sym (apart x there)
      | inr out ↦
          let before : is_in (take i objs) x ≡ false = elim (cases_Bool (is_in (take i objs) x)) [ inr isnt ↦ isnt | inl is ↦ absurd (true≢false (sym (taken_within objs i x is) ∙ out)) ] in
          (λ j. (before j || is_in os x) && not (out j)) ∙ and_true (is_in os x)
    ]
      where
        and_none : (b : Bool) → (b && false) ≡ false
        and_none true = refl
        and_none false = refl

        and_true : (b : Bool) → (b && true) ≡ b
        and_true true = refl
        and_true false = refl

-- all of them are
pub all_back : (objs os : List Obj) → IsOrdered os → ((x : Obj) → is_in objs x ≡ true → is_in os x ≡ false) → without (is_in objs) (in_order obj_cmp (objs ++ os)) ≡ os
all_back objs os h apart = ap (λ l. without (is_in objs) (in_order obj_cmp (l ++ os))) (sym (take_all (length objs) objs (omega arith))) ∙ added_back objs (length objs) os h apart

pub taken_push : (objs : List Obj) (i : ℕ) (o : Obj) → i < length objs → o ≡ get_or objs i o → take (i + 1) objs ≡ take i objs ++ o ∷ []
taken_push objs i o below is = take_more objs i o below ∙ ap (λ y. take i objs ++ y ∷ []) (sym is)

pub item_in : (objs : List Obj) (i : ℕ) (o : Obj) → i < length objs → o ≡ get_or objs i o → is_in objs o ≡ true
item_in objs i o below is =
    taken_within objs (i + 1) o (taken_more objs i o below is o ∙ or_right (is_in (take i objs) o) (same_obj o o) (obj_itself o))

-- one that was put in is taken out again
pub put_back : (o : Obj) (os : List Obj) → IsOrdered os → is_in os o ≡ false → without (same_obj o) (in_order obj_cmp (o ∷ os)) ≡ os
put_back o os h out = same_ordered (without (same_obj o) (in_order obj_cmp (o ∷ os))) os
    (ordered_filter (λ x. not (same_obj o x)) (in_order obj_cmp (o ∷ os)) (ordered_in_order (o ∷ os))) h
    (λ x. in_without (same_obj o) (in_order obj_cmp (o ∷ os)) x ∙ ap (λ b. b && not (same_obj o x)) (in_ordered (o ∷ os) x) ∙ ap (λ b. (b || is_in os x) && not (same_obj o x)) (same_turned x o) ∙ at x (same_obj o x) refl)
  where
    at : (x : Obj) (b : Bool) → same_obj o x ≡ b → ((b || is_in os x) && not b) ≡ is_in os x
    at x true is = sym (ap (is_in os) (sym (obj_same o x is)) ∙ out)
    at x false is = and_true (is_in os x)
      where
        and_true : (b : Bool) → (b && true) ≡ b
        and_true true = refl
        and_true false = refl

pub put_last : (o : Obj) (os : List Obj) → in_order obj_cmp (o ∷ in_order obj_cmp os) ≡ in_order obj_cmp (os ++ o ∷ [])
put_last o os = same_in (o ∷ in_order obj_cmp os) (os ++ o ∷ []) (λ x.
    ap (λ b. same_obj x o || b) (in_ordered os x) ∙ turn (same_obj x o) (is_in os x) ∙ sym (any_append (same_obj x) os (o ∷ []) ∙ ap (λ b. is_in os x || b) (or_none (same_obj x o))))
  where
    turn : (a b : Bool) → (a || b) ≡ (b || a)
    turn true true = refl
    turn true false = refl
    turn false true = refl
    turn false false = refl

-- those that aren't in, put in, are all put in
pub lacking_all : (objs os : List Obj) → in_order obj_cmp (without (is_in os) objs ++ os) ≡ in_order obj_cmp (objs ++ os)
lacking_all objs os = same_in (without (is_in os) objs ++ os) (objs ++ os) (λ x.
    any_append (same_obj x) (without (is_in os) objs) os ∙ ap (λ b. b || is_in os x) (in_without (is_in os) objs x) ∙ turn (is_in objs x) (is_in os x) ∙ sym (any_append (same_obj x) objs os))
  where
    turn : (a b : Bool) → ((a && not b) || b) ≡ (a || b)
    turn true true = refl
    turn true false = refl
    turn false true = refl
    turn false false = refl

pub lacking_apart : (objs os : List Obj) (x : Obj) → is_in (without (is_in os) objs) x ≡ true → is_in os x ≡ false
lacking_apart objs os x h = second (is_in objs x) (is_in os x) (sym (in_without (is_in os) objs x) ∙ h)
  where
    second : (a b : Bool) → (a && not b) ≡ true → b ≡ false
    second true true h = absurd (true≢false (sym h))
    second true false h = refl
    second false b h = absurd (true≢false (sym h))
