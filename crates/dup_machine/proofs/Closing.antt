-- What has a look has a skeleton, and what it embeds has looks too.
use Rattle.std.proofs.Common.{◌≡◌, inl, inr, Bool, true, false, not, ◌||◌, ◌&&◌, List, [], ◌∷◌, ◌++◌, refl, sym, ap, ◌∙◌}
use Rattle.std.specs.List.{list_any, list_all}
use Rattle.std.proofs.lemmas.Bool.{true≢false, cases_Bool, or_cases, or_left, and_parts, and_from, not-true}
use Rattle.dup_names.specs.Order.{obj_cmp}
use Rattle.dup_names.specs.Words.{in_order}
use Rattle.dup_names.specs.declared.object.Obj.{Obj}
use Rattle.dup_model.specs.Content.{Content}
use Rattle.dup_model.specs.Skeletons.{embeds}
use Rattle.dup_model.specs.Pages.{live}
use Rattle.dup_names.specs.Objects.{same_obj, is_in}
use Rattle.dup_model.specs.Touched.{without, touched, affected}
use Rattle.dup_machine.specs.World.{Work}
use Rattle.dup_model.specs.Found.{found, waiting}
use Rattle.dup_machine.specs.Works.{unjoined, level}
use Rattle.dup_names.proofs.ObjectOrder.{obj_same}
use Rattle.dup_model.proofs.Reached.{or_right}
use Rattle.dup_model.proofs.Earlier.{in_ordered}
use Rattle.dup_model.proofs.Objects.{in_filter}
use Rattle.dup_model.proofs.Incremental.{untouched_same}
use Rattle.dup_model.proofs.JoinedLooks.{affected_upwards}
use Rattle.dup_model.proofs.Finds.{done_unless_waiting, found_further, found_live, found_is_live}
use Rattle.dup_machine.specs.Closed.{IsClosed, ClosedAtFirst, ClosedOnceDone, ClosedOnceJoined, ClosedOnceMoved, ClosedLive, LevelLeaves}
use Rattle.dup_machine.proofs.InOrder.{in_without, in_both, same_ordered, ordered_filter, ordered_found}

pub closed_at_first : ClosedAtFirst
closed_at_first c = record { is_done = λ o h. absurd (true≢false (sym h)); embedded = λ o g h k. absurd (true≢false (sym h)) }

pub closed_once_done : ClosedOnceDone
closed_once_done c done looked o h = record {
  is_done = λ x k. in_ordered (o ∷ done) x ∙ or_right (same_obj x o) (is_in done x) (h.is_done x k);
  embedded = h.embedded;
}

pub without_parts : (test : Obj → Bool) (os : List Obj) (x : Obj) → is_in (without test os) x ≡ true → (is_in os x ≡ true) × (test x ≡ false)
without_parts test os x h =
    let both : (is_in os x ≡ true) × (not (test x) ≡ true) = and_parts _ _ (sym (in_without test os x) ∙ h) in
    (both.0, not-true _ both.1)

without_from : (test : Obj → Bool) (os : List Obj) (x : Obj) → is_in os x ≡ true → test x ≡ false → is_in (without test os) x ≡ true
without_from test os x h k = in_without test os x ∙ and_from _ _ h (ap not k)

pub all_at : (f : Obj → Bool) (os : List Obj) → list_all f os ≡ true → (g : Obj) → is_in os g ≡ true → f g ≡ true
all_at f [] all g h = absurd (true≢false (sym h))
all_at f (o ∷ os) all g h =
    let both : (f o ≡ true) × (list_all f os ≡ true) = and_parts _ _ all in
    elim (or_cases (same_obj g o) (is_in os g) h) [
      | inl one ↦ ap f (obj_same g o one) ∙ both.0
      | inr later ↦ all_at f os both.1 g later
    ]

none_at : (f : Obj → Bool) (os : List Obj) → list_any f os ≡ false → (g : Obj) → is_in os g ≡ true → f g ≡ false
none_at f [] none g h = absurd (true≢false (sym h))
none_at f (o ∷ os) none g h = elim (cases_Bool (f g)) [
  | inr is ↦ is
  | inl is ↦ absurd (true≢false (sym (elim (or_cases (same_obj g o) (is_in os g) h) [
    | inl one ↦ or_left (f o) (list_any f os) (ap f (sym (obj_same g o one)) ∙ is)
    | inr later ↦ or_right (f o) (list_any f os) (any_there f os g later is)
  ]) ∙ none))
]
  where
    any_there : (f : Obj → Bool) (os : List Obj) (g : Obj) → is_in os g ≡ true → f g ≡ true → list_any f os ≡ true
    any_there f [] g h is = absurd (true≢false (sym h))
    any_there f (x ∷ xs) g h is = elim (or_cases (same_obj g x) (is_in xs g) h) [
      | inl one ↦ or_left (f x) (list_any f xs) (ap f (sym (obj_same g x one)) ∙ is)
      | inr later ↦ or_right (f x) (list_any f xs) (any_there f xs g later is)
    ]

or_false : (x y : Bool) → (x || y) ≡ false → (x ≡ false) × (y ≡ false)
or_false true y h = absurd (true≢false h)
or_false false y h = (refl, h)

module _ (c : Content) (work : Work) (h : IsClosed c work.done work.looked) (calm : waiting c work.done ≡ []) where
  -- what is in a level is found and done, and what it embeds has looks
  level_parts : (o : Obj) → is_in (level c work) o ≡ true → (is_in (unjoined c work) o ≡ true) × (list_all (is_in work.looked) (embeds c o) ≡ true)
  level_parts o k = and_parts _ _ (sym (in_filter (λ o. list_all (is_in work.looked) (embeds c o)) (unjoined c work) o) ∙ k)

  level_done : (o : Obj) → is_in (level c work) o ≡ true → is_in work.done o ≡ true
  level_done o k = done_unless_waiting c work.done calm o (without_parts (is_in work.looked) (found c work.done) o (level_parts o k).0).0

pub closed_once_joined : ClosedOnceJoined
closed_once_joined c work h calm = record {
  is_done = λ o k. elim (or_cases (is_in (level c work) o) (is_in work.looked o) (sym (in_both (level c work) work.looked o) ∙ k)) [
    | inl new ↦ level_done c work h calm o new
    | inr old ↦ h.is_done o old
  ];
  embedded = λ o g k at. in_both (level c work) work.looked g ∙ or_right (is_in (level c work) g) (is_in work.looked g) (elim (or_cases (is_in (level c work) o) (is_in work.looked o) (sym (in_both (level c work) work.looked o) ∙ k)) [
    | inl new ↦ all_at (is_in work.looked) (embeds c o) (level_parts c work h calm o new).1 g at
    | inr old ↦ h.embedded o g old at
  ]);
}

pub closed_once_moved : ClosedOnceMoved
closed_once_moved a b done looked frames earlier h = record {
  is_done = λ o k. without_from (touched a b) done o (h.is_done o (kept o k).0) (calm o k).0;
  embedded = λ o g k at.
      let before : is_in (embeds a o) g ≡ true = ap (λ l. is_in l g) (untouched_same a b o frames (calm o k).0).embeds ∙ at in
      without_from (affected a b) looked g (h.embedded o g (kept o k).0 before) (none_at (affected a b) (embeds a o) (calm o k).1 g before);
}
  where
    kept : (o : Obj) → is_in (without (affected a b) looked) o ≡ true → (is_in looked o ≡ true) × (affected a b o ≡ false)
    kept o k = without_parts (affected a b) looked o k

    calm : (o : Obj) → is_in (without (affected a b) looked) o ≡ true → (touched a b o ≡ false) × (list_any (affected a b) (embeds a o) ≡ false)
    calm o k = or_false (touched a b o) (list_any (affected a b) (embeds a o)) (sym (affected_upwards a b o earlier) ∙ (kept o k).1)

or_joined : (x y : Bool) (f : Bool) → (f && not (x || y)) ≡ ((f && not y) && not x)
or_joined true true true = refl
or_joined true true false = refl
or_joined true false true = refl
or_joined true false false = refl
or_joined false true true = refl
or_joined false true false = refl
or_joined false false true = refl
or_joined false false false = refl

pub level_leaves : LevelLeaves
level_leaves c work = same_ordered
    (without (is_in (in_order obj_cmp (level c work ++ work.looked))) (found c work.done))
    (without (is_in (level c work)) (without (is_in work.looked) (found c work.done)))
    (ordered_filter (λ o. not (is_in (in_order obj_cmp (level c work ++ work.looked)) o)) (found c work.done) (ordered_found c work.done))
    (ordered_filter (λ o. not (is_in (level c work) o)) (without (is_in work.looked) (found c work.done)) (ordered_filter (λ o. not (is_in work.looked o)) (found c work.done) (ordered_found c work.done)))
    (λ x.
    in_without (is_in (in_order obj_cmp (level c work ++ work.looked))) (found c work.done) x
    ∙ ap (λ b. is_in (found c work.done) x && not b) (in_both (level c work) work.looked x)
    ∙ or_joined (is_in (level c work) x) (is_in work.looked x) (is_in (found c work.done) x)
    ∙ sym (in_without (is_in (level c work)) (without (is_in work.looked) (found c work.done)) x
    ∙ ap (λ b. b && not (is_in (level c work) x)) (in_without (is_in work.looked) (found c work.done) x)))

-- all that is live is found once all of it is done
pub closed_live : ClosedLive
closed_live c earlier = record { is_done = λ o h. h; embedded = λ o g h k. further o g h k }
  where
    all_live : found c (live c) ≡ live c
    all_live = found_is_live c (live c) (λ f h. found_live c (live c) f h)

    further : (o g : Obj) → is_in (live c) o ≡ true → is_in (embeds c o) g ≡ true → is_in (live c) g ≡ true
    further o g h k = ap (λ l. is_in l g) (sym all_live) ∙ found_further c (live c) earlier o g (ap (λ l. is_in l o) all_live ∙ h) h k
