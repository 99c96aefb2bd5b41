-- What no touched item changes.
use Rattle.std.proofs.Common.{◌≡◌, ℕ, zero, suc, inl, inr, Bool, true, false, not, cond, ◌||◌, List, [], ◌∷◌, ◌++◌, map, refl, sym, ap, subst, ◌∙◌}
use Rattle.std.specs.List.{list_any, flat_map}
use Rattle.std.proofs.lemmas.Bool.{true≢false, or_cases, or_left, ne_eqb, eq-eqb, not-false}
use Rattle.std.proofs.lemmas.Bool.Decides.{eqb_tells}
use Rattle.std.proofs.lemmas.Slice.Eq.{bytes_eq-Decides}
use Rattle.dup_names.specs.Order.{text_cmp, obj_cmp, item_cmp}
use Rattle.dup_names.specs.declared.object.Obj.{Obj}
use Rattle.dup_template.specs.SameStatement.{body-Decides}
use Rattle.dup_template.specs.declared.value.Value.{Value}
use Rattle.dup_template.specs.declared.value.Value.TheVariants as seen
use Rattle.dup_model.specs.declared.mark.Mark.{Mark}
use Rattle.dup_model.specs.declared.mark.Mark.TheVariants as mark
use Rattle.dup_names.specs.Words.{Word, in_order, same}
use Rattle.dup_model.specs.Content.{Content, value}
use Rattle.dup_model.specs.Marks.{marks}
use Rattle.dup_model.specs.Show.{show, shown, show_below}
use Rattle.dup_model.specs.Skeletons.{embeds, goes, read_by, hole_of, goes_by, pieces}
use Rattle.dup_model.specs.Looks.{look, uses, down}
use Rattle.dup_names.specs.Objects.{is_in}
use Rattle.dup_model.specs.Touched.{same_value, differs, touched, affected}
use Rattle.dup_model.specs.Incremental.{UntouchedIsSame, UnaffectedLooksSame}
use Rattle.dup_model.proofs.Agree.{AreSame, marks-same}
use Rattle.dup_names.proofs.ItemOrder.{item_tied}
use Rattle.dup_names.proofs.ObjectOrder.{obj_same, obj_tied, obj_itself}
use Rattle.dup_model.proofs.Sound.{list_same}
use Rattle.dup_model.proofs.Reached.{or_right}
use Rattle.dup_model.proofs.Ordering.{any_in_order, any_flat}
use Rattle.dup_model.proofs.Earlier.{in_ordered, always, down_at, down_past, of_flat}

-- tied items are one, and so are values that pass the test

bool_same : (a b : Bool) → cond a b (not b) ≡ true → a ≡ b
bool_same true b is = sym is
bool_same false true is = absurd (true≢false (sym is))
bool_same false false is = refl

word_same : (a b : Word) → same a b ≡ true → a ≡ b
word_same a b is = (bytes_eq-Decides a b).0 is

pub value_same : (x y : Value) → same_value x y ≡ true → x ≡ y
value_same (seen.Text a) (seen.Text b) is = ap seen.Text (word_same a b is)
value_same (seen.Text a) (seen.Exists b) is = absurd (true≢false (sym is))
value_same (seen.Text a) (seen.Keys b) is = absurd (true≢false (sym is))
value_same (seen.Exists a) (seen.Text b) is = absurd (true≢false (sym is))
value_same (seen.Exists a) (seen.Exists b) is = ap seen.Exists (bool_same a b is)
value_same (seen.Exists a) (seen.Keys b) is = absurd (true≢false (sym is))
value_same (seen.Keys a) (seen.Text b) is = absurd (true≢false (sym is))
value_same (seen.Keys a) (seen.Exists b) is = absurd (true≢false (sym is))
value_same (seen.Keys a) (seen.Keys b) is = ap seen.Keys (list_same same word_same a b is)
value_same (seen.Body a) (seen.Body b) is = ap seen.Body ((body-Decides a b).0 is)
value_same (seen.Text a) (seen.Body b) is = absurd (true≢false (sym is))
value_same (seen.Exists a) (seen.Body b) is = absurd (true≢false (sym is))
value_same (seen.Keys a) (seen.Body b) is = absurd (true≢false (sym is))
value_same (seen.Body a) (seen.Text b) is = absurd (true≢false (sym is))
value_same (seen.Body a) (seen.Exists b) is = absurd (true≢false (sym is))
value_same (seen.Body a) (seen.Keys b) is = absurd (true≢false (sym is))

-- an object by itself

or_false : (a b : Bool) → (a || b) ≡ false → (a ≡ false) × (b ≡ false)
or_false true b h = absurd (true≢false h)
or_false false b h = (refl, h)

module _ (a b : Content) where
  none_same : (ms : List Mark) → list_any (differs a b) (flat_map read_by ms) ≡ false → AreSame a b ms
  none_same [] h = tt
  none_same (mark.Plain w ∷ ms) h = (tt, none_same ms h)
  none_same (mark.Hole o ∷ ms) h = (tt, none_same ms h)
  none_same (mark.Read it ∷ ms) h =
      let both : (differs a b it ≡ false) × (list_any (differs a b) (flat_map read_by ms) ≡ false) = or_false _ _ h in
      (value_same (value a it) (value b it) (not-false _ both.0), none_same ms both.1)
  none_same (mark.Goes q ∷ ms) h = (tt, none_same ms h)

  marks_same : a.frame ≡ b.frame → (o : Obj) → AreSame a b (marks a o) → marks a o ≡ marks b o
  marks_same one o =
      subst (λ f. let d : Content = record { frame = f; bodies = b.bodies; tables = b.tables } in AreSame a d (marks a o) → marks a o ≡ marks d o) one
      (marks-same a.frame a.bodies b.bodies a.tables b.tables o)

  module _ (one : a.frame ≡ b.frame) where
    pub untouched_marks : (o : Obj) → touched a b o ≡ false → marks a o ≡ marks b o
    untouched_marks o h =
        marks_same one o (none_same (marks a o)
        (sym (any_in_order item_cmp (differs a b) (λ x y tie. ap (differs a b) (item_tied x y tie)) (flat_map read_by (marks a o))) ∙ h))

    -- all that it embeds

    abbrev Calm : ℕ → Obj → Type 0
    Calm n o = list_any (touched a b) (down a always n o) ≡ false

    calm_parts : (n : ℕ) (o : Obj) → o.template ≡ n → Calm (suc n) o → (touched a b o ≡ false) × (list_any (λ x. list_any (touched a b) (down a always n x)) (embeds a o) ≡ false)
    calm_parts n o at h =
        let both : (touched a b o ≡ false) × (list_any (touched a b) (flat_map (down a always n) (embeds a o)) ≡ false) =
        or_false _ _ (sym (ap (list_any (touched a b)) (down_at a always n o at)) ∙ h) in
        (both.0, sym (any_flat (touched a b) (down a always n) (embeds a o)) ∙ both.1)

    flat_down : (n : ℕ) → ((o : Obj) → Calm n o → down a always n o ≡ down b always n o) → (os : List Obj) → list_any (λ x. list_any (touched a b) (down a always n x)) os ≡ false →
        flat_map (down a always n) os ≡ flat_map (down b always n) os
    flat_down n each [] h = refl
    flat_down n each (o ∷ os) h =
        let both : (Calm n o) × (list_any (λ x. list_any (touched a b) (down a always n x)) os ≡ false) = or_false _ _ h in
        λ i. each o both.0 i ++ flat_down n each os both.1 i

    pub same_down : (n : ℕ) (o : Obj) → Calm n o → down a always n o ≡ down b always n o
    same_down zero o h = refl
    same_down (suc n) o h = elim (eqb_tells o.template n) [
      | inl e ↦
          let parts : (touched a b o ≡ false) × (list_any (λ x. list_any (touched a b) (down a always n x)) (embeds a o) ≡ false) = calm_parts n o e.1 h in
          down_at a always n o e.1
          ∙ ap (λ l. o ∷ l) (flat_down n (same_down n) (embeds a o) parts.1 ∙ ap (λ ms. flat_map (down b always n) (in_order obj_cmp (flat_map hole_of ms))) (untouched_marks o parts.0))
          ∙ sym (down_at b always n o e.1)
      | inr e ↦
          down_past a always n o e.1 ∙ same_down n o (sym (ap (list_any (touched a b)) (down_past a always n o e.1)) ∙ h) ∙ sym (down_past b always n o e.1)
    ]

    show_at : (c : Content) (n : ℕ) (o : Obj) → o.template ≡ n → show_below c (suc n) o ≡ flat_map (shown (show_below c n)) (marks c o)
    show_at c n o is = rw (eq-eqb o.template n is) refl

    show_past : (c : Content) (n : ℕ) (o : Obj) → (o.template ≡ n → ⊥) → show_below c (suc n) o ≡ show_below c n o
    show_past c n o isnt = rw (ne_eqb o.template n isnt) refl

    flat_shown : (n : ℕ) → ((o : Obj) → Calm n o → show_below a n o ≡ show_below b n o) → (ms : List Mark) → list_any (λ x. list_any (touched a b) (down a always n x)) (flat_map hole_of ms) ≡ false →
        flat_map (shown (show_below a n)) ms ≡ flat_map (shown (show_below b n)) ms
    flat_shown n each [] h = refl
    flat_shown n each (mark.Plain w ∷ ms) h = ap (λ l. w ++ l) (flat_shown n each ms h)
    flat_shown n each (mark.Hole f ∷ ms) h =
        let both : (Calm n f) × (list_any (λ x. list_any (touched a b) (down a always n x)) (flat_map hole_of ms) ≡ false) = or_false _ _ h in
        λ i. each f both.0 i ++ flat_shown n each ms both.1 i
    flat_shown n each (mark.Read it ∷ ms) h = flat_shown n each ms h
    flat_shown n each (mark.Goes q ∷ ms) h = flat_shown n each ms h

    pub same_shown : (n : ℕ) (o : Obj) → Calm n o → show_below a n o ≡ show_below b n o
    same_shown zero o h = refl
    same_shown (suc n) o h = elim (eqb_tells o.template n) [
      | inl e ↦
          let parts : (touched a b o ≡ false) × (list_any (λ x. list_any (touched a b) (down a always n x)) (embeds a o) ≡ false) = calm_parts n o e.1 h in
          show_at a n o e.1
          ∙ flat_shown n (same_shown n) (marks a o)
          (sym (any_in_order obj_cmp (λ x. list_any (touched a b) (down a always n x)) (λ x y tie. ap (λ x. list_any (touched a b) (down a always n x)) (obj_tied x y tie)) (flat_map hole_of (marks a o))) ∙ parts.1)
          ∙ ap (flat_map (shown (show_below b n))) (untouched_marks o parts.0)
          ∙ sym (show_at b n o e.1)
      | inr e ↦
          show_past a n o e.1 ∙ same_shown n o (sym (ap (list_any (touched a b)) (down_past a always n o e.1)) ∙ h) ∙ sym (show_past b n o e.1)
    ]

    calm_kid : (n : ℕ) (os : List Obj) (g : Obj) → is_in os g ≡ true → list_any (λ x. list_any (touched a b) (down a always n x)) os ≡ false → Calm n g
    calm_kid n [] g inside h = absurd (true≢false (sym inside))
    calm_kid n (o ∷ os) g inside h =
        let both : (Calm n o) × (list_any (λ x. list_any (touched a b) (down a always n x)) os ≡ false) = or_false _ _ h in
        elim (or_cases _ _ inside) [
          | inl here ↦ subst (Calm n) (sym (obj_same g o here)) both.0
          | inr later ↦ calm_kid n os g later both.1
        ]

    -- what is reached by a calm walk begins a calm walk of its own
    calm_below : (n : ℕ) (o f : Obj) → Calm n o → is_in (down a always n o) f ≡ true → Calm (suc f.template) f
    calm_below zero o f h inside = absurd (true≢false (sym inside))
    calm_below (suc n) o f h inside = elim (eqb_tells o.template n) [
      | inl e ↦ elim (or_cases _ _ (sym (ap (λ l. is_in l f) (down_at a always n o e.1)) ∙ inside)) [
        | inl here ↦ subst (λ f. Calm (suc f.template) f) (sym (obj_same f o here)) (subst (λ n. Calm (suc n) o) (sym e.1) h)
        | inr later ↦
            let via : (g : Obj) × (is_in (embeds a o) g ≡ true) × (is_in (down a always n g) f ≡ true) = of_flat a n always (embeds a o) f later in
            calm_below n via.0 f (calm_kid n (embeds a o) via.0 via.1 (calm_parts n o e.1 h).1) via.2
      ]
      | inr e ↦ calm_below n o f (sym (ap (list_any (touched a b)) (down_past a always n o e.1)) ∙ h) (sym (ap (λ l. is_in l f) (down_past a always n o e.1)) ∙ inside)
    ]

    map_same : (os : List Obj) → ((f : Obj) → is_in os f ≡ true → show a f ≡ show b f) → map {B = Obj × Word} (λ f. (f, show a f)) os ≡ map (λ f. (f, show b f)) os
    map_same [] each = refl
    map_same (o ∷ os) each = λ i. (o, each o (or_left _ _ (obj_itself o)) i) ∷ map_same os (λ f inside. each f (or_right _ _ inside)) i

    goes_same : (os : List Obj) → ((f : Obj) → is_in os f ≡ true → goes a f ≡ goes b f) → flat_map (goes a) os ≡ flat_map (goes b) os
    goes_same [] each = refl
    goes_same (o ∷ os) each = λ i. each o (or_left _ _ (obj_itself o)) i ++ goes_same os (λ f inside. each f (or_right _ _ inside)) i

    none_in : (os : List Obj) (f : Obj) → list_any (touched a b) os ≡ false → is_in os f ≡ true → touched a b f ≡ false
    none_in [] f h inside = absurd (true≢false (sym inside))
    none_in (o ∷ os) f h inside =
        let both : (touched a b o ≡ false) × (list_any (touched a b) os ≡ false) = or_false _ _ h in
        elim (or_cases _ _ inside) [ inl here ↦ ap (touched a b) (obj_same f o here) ∙ both.0 | inr later ↦ none_in os f both.1 later ]

    module _ (o : Obj) (h : affected a b o ≡ false) where
      calm : Calm (suc o.template) o
      calm = sym (any_in_order obj_cmp (touched a b) (λ x y tie. ap (touched a b) (obj_tied x y tie)) (down a always (suc o.template) o)) ∙ h

      pub same_uses : uses a o ≡ uses b o
      same_uses = ap (in_order obj_cmp) (same_down (suc o.template) o calm)

      pub same_show : (f : Obj) → is_in (uses a o) f ≡ true → show a f ≡ show b f
      same_show f inside = same_shown (suc f.template) f (calm_below (suc o.template) o f calm (sym (in_ordered (down a always (suc o.template) o) f) ∙ inside))

      pub same_look_at : look a o ≡ look b o
      same_look_at =
          let us : map {B = Obj × Word} (λ f. (f, show a f)) (uses a o) ≡ map (λ f. (f, show b f)) (uses b o) = map_same (uses a o) same_show ∙ ap (map {B = Obj × Word} (λ f. (f, show b f))) same_uses in
          let ls : flat_map (goes a) (uses a o) ≡ flat_map (goes b) (uses b o) =
          goes_same (uses a o) (λ f inside. ap (λ ms. in_order text_cmp (flat_map goes_by ms)) (untouched_marks f (none_in (uses a o) f h inside))) ∙ ap (flat_map (goes b)) same_uses in
          let bytes : show a o ≡ show b o = same_shown (suc o.template) o calm in
          λ i. record { obj = o; bytes = bytes i; uses = us i; links = in_order text_cmp (ls i) }

pub untouched_same : UntouchedIsSame
untouched_same a b o one h =
    let m : marks a o ≡ marks b o = untouched_marks a b one o h in
    record {
      marks = m;
      reads = ap (λ ms. in_order item_cmp (flat_map read_by ms)) m;
      embeds = ap (λ ms. in_order obj_cmp (flat_map hole_of ms)) m;
      goes = ap (λ ms. in_order text_cmp (flat_map goes_by ms)) m;
      skeleton = λ i. record { pieces = pieces (m i); links = in_order text_cmp (flat_map goes_by (m i)) };
    }

pub unaffected_same : UnaffectedLooksSame
unaffected_same a b o one h = same_look_at a b one o h
