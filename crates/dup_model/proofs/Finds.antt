-- What a work finds, against what is live.
use Rattle.std.proofs.Common.{◌≡◌, ℕ, zero, suc, inl, inr, Bool, true, false, not, cond, ◌||◌, List, [], ◌∷◌, ◌++◌, map, refl, sym, ap, ◌∙◌}
use Rattle.std.specs.Prelude.{Some, None}
use Rattle.std.specs.List.{list_any, flat_map}
use Rattle.std.proofs.lemmas.Bool.{true≢false, cases_Bool, or_cases, or_left, and_parts, and_from, not-true}
use Rattle.std.proofs.lemmas.Bool.Decides.{eqb_tells}
use Rattle.dup_names.specs.Order.{obj_cmp}
use Rattle.dup_names.specs.declared.object.Obj.{Obj}
use Rattle.dup_names.specs.declared.object.Item.{Item}
use Rattle.dup_template.specs.SameStatement.{body-Decides}
use Rattle.dup_template.specs.declared.value.Value.{Value}
use Rattle.dup_template.specs.declared.value.Value.TheVariants as seen
use Rattle.dup_names.specs.Words.{Path, Word, in_order, same}
use Rattle.dup_model.specs.Content.{Content, value}
use Rattle.dup_model.specs.Skeletons.{embeds, reads}
use Rattle.dup_model.specs.Looks.{down, reached_from, uses}
use Rattle.dup_model.specs.Pages.{pages, live}
use Rattle.dup_names.specs.Objects.{same_obj, is_in}
use Rattle.dup_model.specs.Touched.{same_value}
use Rattle.dup_model.specs.Found.{found, waiting}
use Rattle.dup_model.specs.Expansions.{notes, stale}
use Rattle.dup_model.specs.Embeddings.{EmbedsEarlier}
use Rattle.std.specs.Cmp.Lexicographic.{pointwise}
use Rattle.std.proofs.lemmas.Slice.Eq.{bytes_eq-Decides}
use Rattle.dup_model.proofs.Reached.{or_right}
use Rattle.dup_model.proofs.Ordering.{any_flat}
use Rattle.dup_names.proofs.ObjectOrder.{obj_itself}
use Rattle.dup_model.proofs.Earlier.{in_ordered, always, down_at, down_past, down_further, in_flat, of_flat}
use Rattle.dup_model.proofs.Objects.{in_filter, IsOnce, once_in_order}

module _ (c : Content) (is_open : Obj → Bool) where
  -- a walk through open objects alone is a part of the whole walk
  down_within : (n : ℕ) (o f : Obj) → is_in (down c is_open n o) f ≡ true → is_in (down c always n o) f ≡ true
  down_within zero o f h = h
  down_within (suc n) o f h = elim (eqb_tells o.template n) [
    | inl e ↦ ap (λ l. is_in l f) (down_at c always n o e.1) ∙ (elim (or_cases (same_obj f o) (is_in (cond (is_open o) (flat_map (down c is_open n) (embeds c o)) []) f) (sym (ap (λ l. is_in l f) (down_at c is_open n o e.1)) ∙ h)) [
      | inl here ↦ or_left (same_obj f o) (is_in (flat_map (down c always n) (embeds c o)) f) here
      | inr later ↦ or_right (same_obj f o) (is_in (flat_map (down c always n) (embeds c o)) f) (by_open (is_open o) (λ g k. down_within n g f k) later)
    ])
    | inr e ↦ ap (λ l. is_in l f) (down_past c always n o e.1) ∙ down_within n o f (sym (ap (λ l. is_in l f) (down_past c is_open n o e.1)) ∙ h)
  ]
    where
      by_open : (b : Bool) → ((g : Obj) → is_in (down c is_open n g) f ≡ true → is_in (down c always n g) f ≡ true) →
          is_in (cond b (flat_map (down c is_open n) (embeds c o)) []) f ≡ true → is_in (flat_map (down c always n) (embeds c o)) f ≡ true
      by_open true onward h =
          let via : (g : Obj) × (is_in (embeds c o) g ≡ true) × (is_in (down c is_open n g) f ≡ true) = of_flat c n is_open (embeds c o) f h in
          in_flat c n always (embeds c o) via.0 f via.1 (onward via.0 via.2)
      by_open false onward h = absurd (true≢false (sym h))

  flat_all : (n : ℕ) → ((o : Obj) → ((f : Obj) → is_in (down c is_open n o) f ≡ true → is_open f ≡ true) → down c is_open n o ≡ down c always n o) →
      (os : List Obj) → ((f : Obj) → is_in (flat_map (down c is_open n) os) f ≡ true → is_open f ≡ true) → flat_map (down c is_open n) os ≡ flat_map (down c always n) os
  flat_all n each [] all = refl
  flat_all n each (o ∷ os) all =
      let first : down c is_open n o ≡ down c always n o = each o (λ f h. all f (any_flat (same_obj f) (down c is_open n) (o ∷ os) ∙ or_left _ _ h)) in
      let rest : flat_map (down c is_open n) os ≡ flat_map (down c always n) os =
      flat_all n each os (λ f h. all f (any_flat (same_obj f) (down c is_open n) (o ∷ os) ∙ or_right _ _ (sym (any_flat (same_obj f) (down c is_open n) os) ∙ h))) in
      λ i. first i ++ rest i

  -- where all that is reached is open, the walk is the whole one
  down_all : (n : ℕ) (o : Obj) → ((f : Obj) → is_in (down c is_open n o) f ≡ true → is_open f ≡ true) → down c is_open n o ≡ down c always n o
  down_all zero o all = refl
  down_all (suc n) o all = elim (eqb_tells o.template n) [
    | inl e ↦
        let opens : is_open o ≡ true = all o (ap (λ l. is_in l o) (down_at c is_open n o e.1) ∙ or_left _ _ (obj_itself o)) in
        let at : down c is_open (suc n) o ≡ o ∷ flat_map (down c is_open n) (embeds c o) = down_at c is_open n o e.1 ∙ ap (λ b. o ∷ cond b (flat_map (down c is_open n) (embeds c o)) []) opens in
        at ∙ ap (λ l. o ∷ l) (flat_all n (down_all n) (embeds c o) (λ f h. all f (ap (λ l. is_in l f) at ∙ or_right _ _ h))) ∙ sym (down_at c always n o e.1)
    | inr e ↦ down_past c is_open n o e.1 ∙ down_all n o (λ f h. all f (ap (λ l. is_in l f) (down_past c is_open n o e.1) ∙ h)) ∙ sym (down_past c always n o e.1)
  ]

module _ (c : Content) (done : List Obj) where
  pub in_found : (f : Obj) → is_in (found c done) f ≡ list_any (λ p. is_in (down c (is_in done) (suc p.1.template) p.1) f) (pages c)
  in_found f =
      in_ordered (flat_map (λ p. reached_from c (is_in done) p.1) (pages c)) f
      ∙ any_flat (same_obj f) (λ p. reached_from c (is_in done) p.1) (pages c)
      ∙ any_ap (pages c)
    where
      any_ap : (ps : List (Path × Obj)) → list_any {X = Path × Obj} (λ p. is_in (reached_from c (is_in done) p.1) f) ps ≡ list_any {X = Path × Obj} (λ p. is_in (down c (is_in done) (suc p.1.template) p.1) f) ps
      any_ap [] = refl
      any_ap (p ∷ ps) = λ i. in_ordered (down c (is_in done) (suc p.1.template) p.1) f i || any_ap ps i

  in_live : (f : Obj) → is_in (live c) f ≡ list_any (λ p. is_in (down c always (suc p.1.template) p.1) f) (pages c)
  in_live f =
      in_ordered (flat_map (λ p. uses c p.1) (pages c)) f
      ∙ any_flat (same_obj f) (λ p. uses c p.1) (pages c)
      ∙ any_ap (pages c)
    where
      any_ap : (ps : List (Path × Obj)) → list_any {X = Path × Obj} (λ p. is_in (uses c p.1) f) ps ≡ list_any {X = Path × Obj} (λ p. is_in (down c always (suc p.1.template) p.1) f) ps
      any_ap [] = refl
      any_ap (p ∷ ps) = λ i. in_ordered (down c always (suc p.1.template) p.1) f i || any_ap ps i

  any_of : (f g : Path × Obj → Bool) → ((p : Path × Obj) → f p ≡ true → g p ≡ true) → (ps : List (Path × Obj)) → list_any f ps ≡ true → list_any g ps ≡ true
  any_of f g more [] h = h
  any_of f g more (p ∷ ps) h = elim (or_cases _ _ h) [ inl here ↦ or_left _ _ (more p here) | inr later ↦ or_right _ _ (any_of f g more ps later) ]

  -- what is found is live
  pub found_live : (f : Obj) → is_in (found c done) f ≡ true → is_in (live c) f ≡ true
  found_live f h =
      in_live f ∙ any_of (λ p. is_in (down c (is_in done) (suc p.1.template) p.1) f) (λ p. is_in (down c always (suc p.1.template) p.1) f)
      (λ p k. down_within c (is_in done) (suc p.1.template) p.1 f k) (pages c) (sym (in_found f) ∙ h)

  -- what a found object embeds that is done is found
  pub found_further : EmbedsEarlier c → (f g : Obj) → is_in (found c done) f ≡ true → is_in done f ≡ true → is_in (embeds c f) g ≡ true → is_in (found c done) g ≡ true
  found_further earlier f g h is_done k =
      in_found g ∙ any_of (λ p. is_in (down c (is_in done) (suc p.1.template) p.1) f) (λ p. is_in (down c (is_in done) (suc p.1.template) p.1) g)
      (λ p at. down_further c earlier (is_in done) (suc p.1.template) p.1 f g at is_done k) (pages c) (sym (in_found f) ∙ h)

  all_pages : (ps : List (Path × Obj)) → ((f : Obj) → list_any {X = Path × Obj} (λ p. is_in (down c (is_in done) (suc p.1.template) p.1) f) ps ≡ true → is_in done f ≡ true) →
      flat_map {X = Path × Obj} (λ p. reached_from c (is_in done) p.1) ps ≡ flat_map {X = Path × Obj} (λ p. uses c p.1) ps
  all_pages [] all = refl
  all_pages (p ∷ ps) all =
      let first : down c (is_in done) (suc p.1.template) p.1 ≡ down c always (suc p.1.template) p.1 = down_all c (is_in done) (suc p.1.template) p.1 (λ f h. all f (or_left _ _ h)) in
      λ i. in_order obj_cmp (first i) ++ all_pages ps (λ f h. all f (or_right _ _ h)) i

  -- where all that is found is done, it is all that is live
  pub found_is_live : ((f : Obj) → is_in (found c done) f ≡ true → is_in done f ≡ true) → found c done ≡ live c
  found_is_live all = ap (in_order obj_cmp) (all_pages (pages c) (λ f h. all f (in_found f ∙ h)))

  none_in : (os : List Obj) (f : Obj) → os ≡ [] → is_in os f ≡ true → ⊥
  none_in os f none h = true≢false (sym h ∙ ap (λ l. is_in l f) none)

  -- where none waits, all that is found is done
  pub done_unless_waiting : waiting c done ≡ [] → (f : Obj) → is_in (found c done) f ≡ true → is_in done f ≡ true
  done_unless_waiting none f h = elim (cases_Bool (is_in done f)) [
    | inl is ↦ is
    | inr isnt ↦ absurd (none_in (waiting c done) f none (in_filter (λ o. not (is_in done o)) (found c done) f ∙ and_from _ _ h (ap not isnt)))
  ]

  pub waiting_parts : (f : Obj) → is_in (waiting c done) f ≡ true → (is_in (found c done) f ≡ true) × (is_in done f ≡ false)
  waiting_parts f h =
      let both : (is_in (found c done) f ≡ true) × (not (is_in done f) ≡ true) = and_parts _ _ (sym (in_filter (λ o. not (is_in done o)) (found c done) f) ∙ h) in
      (both.0, not-true _ both.1)

pub once_found : (c : Content) (done : List Obj) → IsOnce (found c done)
once_found c done = once_in_order (flat_map (λ p. reached_from c (is_in done) p.1) (pages c))

pub once_live : (c : Content) → IsOnce (live c)
once_live c = once_in_order (flat_map (λ p. uses c p.1) (pages c))

-- notes of a content hold there

keys_itself : (ks : List Word) → pointwise same ks ks ≡ true
keys_itself [] = refl
keys_itself (k ∷ ks) = and_from _ _ ((bytes_eq-Decides k k).1 refl) (keys_itself ks)

pub value_itself : (v : Value) → same_value v v ≡ true
value_itself (seen.Text w) = (bytes_eq-Decides w w).1 refl
value_itself (seen.Exists true) = refl
value_itself (seen.Exists false) = refl
value_itself (seen.Keys ks) = keys_itself ks
value_itself (seen.Body body) = (body-Decides body body).1 refl

none_stale : (c : Content) (its : List Item) → stale c (map (λ it. (it, value c it)) its) ≡ None
none_stale c [] = refl
none_stale c (it ∷ its) = ap (λ b. cond (not b) (Some (let n : Item × Value = (it, value c it) in n)) (stale c (map (λ it. (it, value c it)) its))) (value_itself (value c it)) ∙ none_stale c its

pub notes_hold : (c : Content) (o : Obj) → stale c (notes c o) ≡ None
notes_hold c o = none_stale c (reads c o)
