-- What a work finds, by what is reached.
use Rattle.std.proofs.Common.{◌≡◌, ◌↔◌, ◌⊎◌, inl, inr, Bool, true, false, not, cond, ◌||◌, ◌&&◌, List, [], ◌∷◌, ◌++◌, refl, sym, ap, ◌∙◌}
use Rattle.std.specs.Cmp.{both_ways}
use Rattle.std.proofs.lemmas.Bool.{true≢false, cases_Bool, or_cases, or_left}
use Rattle.dup_names.specs.Order.{obj_cmp}
use Rattle.dup_names.specs.declared.object.Obj.{Obj}
use Rattle.dup_names.specs.Words.{in_order}
use Rattle.dup_model.specs.Content.{Content}
use Rattle.dup_model.specs.Skeletons.{embeds}
use Rattle.dup_names.specs.Objects.{same_obj, is_in}
use Rattle.dup_model.specs.Touched.{without}
use Rattle.dup_model.specs.Found.{found, waiting}
use Rattle.dup_model.specs.Embeddings.{EmbedsEarlier}
use Rattle.dup_model.specs.Found.{Found}
use Rattle.dup_model.specs.Found.Found.{of_page, embedded}
use Rattle.dup_names.proofs.ObjectOrder.{obj_same, obj_itself}
use Rattle.dup_model.proofs.Reached.{or_right}
use Rattle.dup_model.proofs.Earlier.{in_ordered}
use Rattle.dup_model.proofs.Finds.{found_further}
use Rattle.dup_model.proofs.FoundWords.{found_is_found}
use Rattle.dup_machine.proofs.InOrder.{same_ordered, ordered_filter, ordered_in_order, ordered_found, in_without, in_both, same_turned}
use Rattle.dup_machine.specs.Reached.{Reached, opened}
use Rattle.dup_machine.specs.Reached.Reached.{root, onward}
use Rattle.dup_machine.specs.FoundGrows.{page_objs, FoundIsReached, FoundGrows}

module _ (c : Content) (done : List Obj) where
  -- what is below an object that is done is embedded by it
  pub below_opened : (f g : Obj) → is_in done f ≡ true → is_in (embeds c f) g ≡ true → is_in (opened c done f) g ≡ true
  below_opened f g is h = ap (λ b. is_in (cond b (embeds c f) []) g) is ∙ h

  pub opened_below : (f g : Obj) → is_in (opened c done f) g ≡ true → (is_in done f ≡ true) × (is_in (embeds c f) g ≡ true)
  opened_below f g h = elim (cases_Bool (is_in done f)) [
    | inl is ↦ (is, sym (ap (λ b. is_in (cond b (embeds c f) []) g) is) ∙ h)
    | inr isnt ↦ absurd (true≢false (sym h ∙ ap (λ b. is_in (cond b (embeds c f) []) g) isnt))
  ]

  to_reached : {g : Obj} → Found c done g → Reached (opened c done) (λ _. false) (page_objs c) g
  to_reached (of_page h) = root h refl
  to_reached (embedded {f} k is g h) = onward (to_reached k) g (below_opened f g is h) refl

  from_reached : {g : Obj} → Reached (opened c done) (λ _. false) (page_objs c) g → Found c done g
  from_reached (root h new) = of_page h
  from_reached (onward {f} k g h new) = let parts : (is_in done f ≡ true) × (is_in (embeds c f) g ≡ true) = opened_below f g h in embedded (from_reached k) parts.0 g parts.1

pub found_is_reached : FoundIsReached
found_is_reached c done g earlier =
    (λ h. to_reached c done ((found_is_found c done g earlier).0 h), λ r. (found_is_found c done g earlier).1 (from_reached c done r))

module _ (c : Content) (done : List Obj) (o : Obj) (earlier : EmbedsEarlier c) (here : is_in (found c done) o ≡ true) where
  abbrev after : List Obj
  after = in_order obj_cmp (o ∷ done)

  abbrev New : Obj → Type 0
  New g = Reached (opened c done) (is_in (found c done)) (embeds c o) g

  is_after : (f : Obj) → is_in after f ≡ (same_obj f o || is_in done f)
  is_after f = in_ordered (o ∷ done) f

  still_found : {g : Obj} → Found c done g → Found c after g
  still_found (of_page h) = of_page h
  still_found (embedded {f} k is g h) = embedded (still_found k) (is_after f ∙ or_right (same_obj f o) (is_in done f) is) g h

  from_new : {g : Obj} → New g → Found c after g
  from_new (root {g} h new) = embedded (still_found ((found_is_found c done o earlier).0 here)) (is_after o ∙ or_left (same_obj o o) (is_in done o) (obj_itself o)) g h
  from_new (onward {f} k g h new) =
      let parts : (is_in done f ≡ true) × (is_in (embeds c f) g ≡ true) = opened_below c done f g h in
      embedded (from_new k) (is_after f ∙ or_right (same_obj f o) (is_in done f) parts.0) g parts.1

  by_parent : (f g : Obj) → (is_in (found c done) f ≡ true) ⊎ New f → (same_obj f o ≡ true) ⊎ (is_in done f ≡ true) → is_in (embeds c f) g ≡ true → is_in (found c done) g ≡ false → New g
  by_parent f g before (inl one) h new = root (ap (λ x. is_in (embeds c x) g) (sym (obj_same f o one)) ∙ h) new
  by_parent f g (inl old) (inr is) h new = absurd (true≢false (sym (found_further c done earlier f g old is h) ∙ new))
  by_parent f g (inr reached) (inr is) h new = onward reached g (below_opened c done f g is h) new

  to_either : {g : Obj} → Found c after g → (is_in (found c done) g ≡ true) ⊎ New g
  to_either (of_page {o = g} h) = inl ((found_is_found c done g earlier).1 (of_page h))
  to_either (embedded {f} k is g h) = elim (cases_Bool (is_in (found c done) g)) [
    | inl old ↦ inl old
    | inr new ↦ inr (by_parent f g (to_either k) (or_cases (same_obj f o) (is_in done f) (sym (is_after f) ∙ is)) h new)
  ]

pub found_grows : FoundGrows
found_grows c done o g earlier here = (
  λ h. to_either c done o earlier here ((found_is_found c (in_order obj_cmp (o ∷ done)) g earlier).0 h),
  λ e. (found_is_found c (in_order obj_cmp (o ∷ done)) g earlier).1 (elim e [
    | inl old ↦ still_found c done o earlier here ((found_is_found c done g earlier).0 old)
    | inr new ↦ from_new c done o earlier here new
  ]),
)

-- what is reached wasn't seen
pub reached_unseen : (below : Obj → List Obj) (is_seen : Obj → Bool) (roots : List Obj) {g : Obj} → Reached below is_seen roots g → is_seen g ≡ false
reached_unseen below is_seen roots (root h new) = new
reached_unseen below is_seen roots (onward k g h new) = new

module _ (c : Content) (done looked : List Obj) (o : Obj) (earlier : EmbedsEarlier c) (here : is_in (found c done) o ≡ true) (fresh : List Obj)
    (each : (g : Obj) → (is_in fresh g ≡ true) ↔ Reached (opened c done) (is_in (found c done)) (embeds c o) g) where
  found_then : (x : Obj) → is_in (found c (in_order obj_cmp (o ∷ done))) x ≡ (is_in fresh x || is_in (found c done) x)
  found_then x = both_ways (is_in (found c (in_order obj_cmp (o ∷ done))) x) (is_in fresh x || is_in (found c done) x)
      (λ h. elim ((found_grows c done o x earlier here).0 h) [
        | inl old ↦ or_right (is_in fresh x) (is_in (found c done) x) old
        | inr new ↦ or_left (is_in fresh x) (is_in (found c done) x) ((each x).1 new)
      ])
      (λ h. (found_grows c done o x earlier here).1 (elim (or_cases (is_in fresh x) (is_in (found c done) x) h) [ inl new ↦ inr ((each x).0 new) | inr old ↦ inl old ]))

  pub fresh_apart : (x : Obj) → is_in fresh x ≡ true → is_in (found c done) x ≡ false
  fresh_apart x h = reached_unseen (opened c done) (is_in (found c done)) (embeds c o) ((each x).0 h)

  pub found_after : in_order obj_cmp (fresh ++ found c done) ≡ found c (in_order obj_cmp (o ∷ done))
  found_after = same_ordered (in_order obj_cmp (fresh ++ found c done)) (found c (in_order obj_cmp (o ∷ done)))
      (ordered_in_order (fresh ++ found c done)) (ordered_found c (in_order obj_cmp (o ∷ done))) (λ x. in_both fresh (found c done) x ∙ sym (found_then x))

  pub waiting_after : without (same_obj o) (in_order obj_cmp (without (is_in done) fresh ++ waiting c done)) ≡ waiting c (in_order obj_cmp (o ∷ done))
  waiting_after = same_ordered (without (same_obj o) (in_order obj_cmp (without (is_in done) fresh ++ waiting c done))) (waiting c (in_order obj_cmp (o ∷ done)))
      (ordered_filter (λ x. not (same_obj o x)) (in_order obj_cmp (without (is_in done) fresh ++ waiting c done)) (ordered_in_order (without (is_in done) fresh ++ waiting c done)))
      (ordered_filter (λ x. not (is_in (in_order obj_cmp (o ∷ done)) x)) (found c (in_order obj_cmp (o ∷ done))) (ordered_found c (in_order obj_cmp (o ∷ done))))
      (λ x.
      in_without (same_obj o) (in_order obj_cmp (without (is_in done) fresh ++ waiting c done)) x
      ∙ (λ i. (in_both (without (is_in done) fresh) (waiting c done) x ∙ (λ j. in_without (is_in done) fresh x j || in_without (is_in done) (found c done) x j)) i && not (same_turned o x i))
      ∙ by_cases (is_in fresh x) (is_in (found c done) x) (is_in done x) (same_obj x o)
      ∙ sym (in_without (is_in (in_order obj_cmp (o ∷ done))) (found c (in_order obj_cmp (o ∷ done))) x
      ∙ (λ i. found_then x i && not (in_ordered (o ∷ done) x i))))
    where
      by_cases : (f w d s : Bool) → (((f && not d) || (w && not d)) && not s) ≡ ((f || w) && not (s || d))
      by_cases true true true true = refl
      by_cases true true true false = refl
      by_cases true true false true = refl
      by_cases true true false false = refl
      by_cases true false true true = refl
      by_cases true false true false = refl
      by_cases true false false true = refl
      by_cases true false false false = refl
      by_cases false true true true = refl
      by_cases false true true false = refl
      by_cases false true false true = refl
      by_cases false true false false = refl
      by_cases false false true true = refl
      by_cases false false true false = refl
      by_cases false false false true = refl
      by_cases false false false false = refl

  pub unjoined_after : in_order obj_cmp (without (is_in looked) fresh ++ without (is_in looked) (found c done)) ≡ without (is_in looked) (found c (in_order obj_cmp (o ∷ done)))
  unjoined_after = same_ordered (in_order obj_cmp (without (is_in looked) fresh ++ without (is_in looked) (found c done))) (without (is_in looked) (found c (in_order obj_cmp (o ∷ done))))
      (ordered_in_order (without (is_in looked) fresh ++ without (is_in looked) (found c done)))
      (ordered_filter (λ x. not (is_in looked x)) (found c (in_order obj_cmp (o ∷ done))) (ordered_found c (in_order obj_cmp (o ∷ done))))
      (λ x.
      in_both (without (is_in looked) fresh) (without (is_in looked) (found c done)) x
      ∙ (λ i. in_without (is_in looked) fresh x i || in_without (is_in looked) (found c done) x i)
      ∙ by_cases (is_in fresh x) (is_in (found c done) x) (is_in looked x)
      ∙ sym (in_without (is_in looked) (found c (in_order obj_cmp (o ∷ done))) x ∙ ap (λ b. b && not (is_in looked x)) (found_then x)))
    where
      by_cases : (f w l : Bool) → ((f && not l) || (w && not l)) ≡ ((f || w) && not l)
      by_cases true true true = refl
      by_cases true true false = refl
      by_cases true false true = refl
      by_cases true false false = refl
      by_cases false true true = refl
      by_cases false true false = refl
      by_cases false false true = refl
      by_cases false false false = refl
