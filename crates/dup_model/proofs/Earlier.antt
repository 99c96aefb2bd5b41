-- What follows where templates embed earlier templates alone.
use Rattle.std.proofs.Common.{◌≡◌, ℕ, zero, suc, ◌<◌, inl, inr, Bool, true, false, cond, List, [], ◌∷◌, ◌++◌, map, refl, sym, ap, subst, ◌∙◌, arith}
use Rattle.std.specs.List.{flat_map, AllByRecursion, Contains}
use Rattle.std.proofs.lemmas.Bool.{true≢false, or_cases, or_left, ne_eqb, eq-eqb}
use Rattle.std.proofs.lemmas.Bool.Decides.{eqb_tells}
use Rattle.dup_names.specs.Order.{obj_cmp}
use Rattle.dup_names.specs.declared.object.Obj.{Obj}
use Rattle.dup_model.specs.declared.mark.Mark.{Mark}
use Rattle.dup_model.specs.declared.mark.Mark.TheVariants as mark
use Rattle.dup_names.specs.Words.{Word, in_order}
use Rattle.dup_model.specs.Content.{Content}
use Rattle.dup_model.specs.Names.{template_at}
use Rattle.dup_model.specs.Marks.{marks}
use Rattle.dup_model.specs.Show.{show, shown, show_below}
use Rattle.dup_model.specs.Skeletons.{embeds, hole_of}
use Rattle.dup_model.specs.Looks.{uses, down}
use Rattle.dup_names.specs.Objects.{same_obj, is_in}
use Rattle.dup_model.specs.Embeddings.{EmbedsEarlier}
use Rattle.dup_model.specs.Uses.{Uses, ShowIsOfMarks, UsesAreAll, LooksShow}
use Rattle.dup_model.specs.Uses.Uses.{itself, further}
use Rattle.dup_model.proofs.EachMark.{marks_all}
use Rattle.dup_model.proofs.Below.{show-marks, show_below-early}
use Rattle.dup_names.proofs.ObjectOrder.{obj_itself, obj_same, obj_tied}
use Rattle.dup_model.proofs.Reached.{or_right}
use Rattle.dup_model.proofs.Ordering.{any_in_order, any_flat}

pub in_ordered : (os : List Obj) (f : Obj) → is_in (in_order obj_cmp os) f ≡ is_in os f
in_ordered os f = any_in_order obj_cmp (same_obj f) (λ x y tie. ap (same_obj f) (obj_tied x y tie)) os

-- each hole is of an earlier template

abbrev pub IsEarlier : ℕ → Mark → Type 0
IsEarlier n (mark.Hole f) = f.template < n
IsEarlier n _ = Unit {0}

module _ (c : Content) (earlier : EmbedsEarlier c) where
  pub holes_earlier : (o : Obj) → AllByRecursion (IsEarlier o.template) (marks c o)
  holes_earlier o =
      marks_all c (IsEarlier o.template) (λ name. template_at c.frame name < o.template)
      (record { plain = λ w. tt; read = λ it. tt; hole = λ name allowed key. allowed; fixed = λ name path none at. tt; in_row = λ name key path kind named there at. tt })
      o (earlier o.template)

  same_shown : (n : ℕ) (ms : List Mark) → AllByRecursion (IsEarlier n) ms → flat_map (shown (show_below c n)) ms ≡ flat_map (shown (show c)) ms
  same_shown n [] all = refl
  same_shown n (mark.Plain w ∷ ms) all = ap (λ l. w ++ l) (same_shown n ms all.1)
  same_shown n (mark.Hole f ∷ ms) all = λ i. show_below-early c n f all.0 i ++ same_shown n ms all.1 i
  same_shown n (mark.Read it ∷ ms) all = same_shown n ms all.1
  same_shown n (mark.Goes q ∷ ms) all = same_shown n ms all.1

  pub show_of_marks : (o : Obj) → show c o ≡ flat_map (shown (show c)) (marks c o)
  show_of_marks o = show-marks c o ∙ same_shown o.template (marks c o) (holes_earlier o)

  in_holes : (n : ℕ) (ms : List Mark) → AllByRecursion (IsEarlier n) ms → (g : Obj) → is_in (flat_map hole_of ms) g ≡ true → g.template < n
  in_holes n [] all g h = absurd (true≢false (sym h))
  in_holes n (mark.Plain w ∷ ms) all g h = in_holes n ms all.1 g h
  in_holes n (mark.Hole f ∷ ms) all g h = elim (or_cases _ _ h) [
    | inl here ↦ subst (λ o. o.template < n) (sym (obj_same g f here)) all.0
    | inr later ↦ in_holes n ms all.1 g later
  ]
  in_holes n (mark.Read it ∷ ms) all g h = in_holes n ms all.1 g h
  in_holes n (mark.Goes q ∷ ms) all g h = in_holes n ms all.1 g h

  -- what is embedded is of an earlier template
  pub embeds_earlier : (o g : Obj) → is_in (embeds c o) g ≡ true → g.template < o.template
  embeds_earlier o g h = in_holes o.template (marks c o) (holes_earlier o) g (sym (in_ordered (flat_map hole_of (marks c o)) g) ∙ h)

-- walking down

abbrev pub always : Obj → Bool
always o = true

module _ (c : Content) where
  pub in_flat : (n : ℕ) (is_open : Obj → Bool) (os : List Obj) (g f : Obj) → is_in os g ≡ true → is_in (down c is_open n g) f ≡ true → is_in (flat_map (down c is_open n) os) f ≡ true
  in_flat n is_open [] g f h k = absurd (true≢false (sym h))
  in_flat n is_open (o ∷ os) g f h k =
      any_flat (same_obj f) (down c is_open n) (o ∷ os) ∙ (elim (or_cases _ _ h) [
        | inl here ↦ or_left _ _ (ap (λ o. is_in (down c is_open n o) f) (sym (obj_same g o here)) ∙ k)
        | inr later ↦ or_right _ _ (sym (any_flat (same_obj f) (down c is_open n) os) ∙ in_flat n is_open os g f later k)
      ])

  pub of_flat : (n : ℕ) (is_open : Obj → Bool) (os : List Obj) (f : Obj) → is_in (flat_map (down c is_open n) os) f ≡ true → (g : Obj) × (is_in os g ≡ true) × (is_in (down c is_open n g) f ≡ true)
  of_flat n is_open [] f h = absurd (true≢false (sym h))
  of_flat n is_open (o ∷ os) f h = elim (or_cases _ _ (sym (any_flat (same_obj f) (down c is_open n) (o ∷ os)) ∙ h)) [
    | inl here ↦ (o, or_left _ _ (obj_itself o), here)
    | inr later ↦
        let rest : (g : Obj) × (is_in os g ≡ true) × (is_in (down c is_open n g) f ≡ true) = of_flat n is_open os f (any_flat (same_obj f) (down c is_open n) os ∙ later) in
        (rest.0, or_right _ _ rest.1, rest.2)
  ]

  pub down_at : (is_open : Obj → Bool) (n : ℕ) (o : Obj) → o.template ≡ n → down c is_open (suc n) o ≡ o ∷ cond (is_open o) (flat_map (down c is_open n) (embeds c o)) []
  down_at is_open n o is = rw (eq-eqb o.template n is) refl

  pub down_past : (is_open : Obj → Bool) (n : ℕ) (o : Obj) → (o.template ≡ n → ⊥) → down c is_open (suc n) o ≡ down c is_open n o
  down_past is_open n o isnt = rw (ne_eqb o.template n isnt) refl

  pub down_itself : (is_open : Obj → Bool) (n : ℕ) (o : Obj) → o.template < n → is_in (down c is_open n o) o ≡ true
  down_itself is_open zero o h = absurd (omega (arith, h))
  down_itself is_open (suc n) o h = elim (eqb_tells o.template n) [
    | inl e ↦ ap (λ l. is_in l o) (down_at is_open n o e.1) ∙ or_left _ _ (obj_itself o)
    | inr e ↦ ap (λ l. is_in l o) (down_past is_open n o e.1) ∙ down_itself is_open n o (omega (arith, h, e.1))
  ]

  module _ (earlier : EmbedsEarlier c) where
    -- what an object that is reached and open embeds is reached
    pub down_further : (is_open : Obj → Bool) (n : ℕ) (o f g : Obj) → is_in (down c is_open n o) f ≡ true → is_open f ≡ true → is_in (embeds c f) g ≡ true → is_in (down c is_open n o) g ≡ true
    down_further is_open zero o f g h opens k = absurd (true≢false (sym h))
    down_further is_open (suc n) o f g h opens k = elim (eqb_tells o.template n) [
      | inl e ↦
          ap (λ l. is_in l g) (down_at is_open n o e.1) ∙ (elim (or_cases _ _ (sym (ap (λ l. is_in l f) (down_at is_open n o e.1)) ∙ h)) [
            | inl here ↦
                let one : f ≡ o = obj_same f o here in
                let at : is_in (embeds c o) g ≡ true = ap (λ o. is_in (embeds c o) g) (sym one) ∙ k in
                or_right _ _ (ap (λ b. is_in (cond b (flat_map (down c is_open n) (embeds c o)) []) g) (ap is_open (sym one) ∙ opens)
                ∙ in_flat n is_open (embeds c o) g g at (down_itself is_open n g (omega (arith, embeds_earlier c earlier o g at, e.1))))
            | inr later ↦ or_right _ _ (by_open (is_open o) (λ x h. down_further is_open n x f g h opens k) later)
          ])
      | inr e ↦ ap (λ l. is_in l g) (down_past is_open n o e.1) ∙ down_further is_open n o f g (sym (ap (λ l. is_in l f) (down_past is_open n o e.1)) ∙ h) opens k
    ]
      where
        by_open : (b : Bool) → ((x : Obj) → is_in (down c is_open n x) f ≡ true → is_in (down c is_open n x) g ≡ true) →
            is_in (cond b (flat_map (down c is_open n) (embeds c o)) []) f ≡ true → is_in (cond b (flat_map (down c is_open n) (embeds c o)) []) g ≡ true
        by_open true onward h =
            let via : (x : Obj) × (is_in (embeds c o) x ≡ true) × (is_in (down c is_open n x) f ≡ true) = of_flat n is_open (embeds c o) f h in
            in_flat n is_open (embeds c o) via.0 g via.1 (onward via.0 via.2)
        by_open false onward h = absurd (true≢false (sym h))

    uses_further : (o f : Obj) → Uses c o f → is_in (uses c o) f ≡ true
    uses_further o f itself = in_ordered (down c always (suc o.template) o) o ∙ down_itself always (suc o.template) o (omega arith)
    uses_further o f (further {f = e} h g k) =
        in_ordered (down c always (suc o.template) o) g
        ∙ down_further always (suc o.template) o e g (sym (in_ordered (down c always (suc o.template) o) e) ∙ uses_further o e h) refl k

  pub from_further : (o g f : Obj) → is_in (embeds c o) g ≡ true → Uses c g f → Uses c o f
  from_further o g f k itself = further itself g k
  from_further o g f k (further {f = d} h e l) = further (from_further o g d k h) e l

  down_uses : (n : ℕ) (o f : Obj) → is_in (down c always n o) f ≡ true → Uses c o f
  down_uses zero o f h = absurd (true≢false (sym h))
  down_uses (suc n) o f h = elim (eqb_tells o.template n) [
    | inl e ↦ elim (or_cases _ _ (sym (ap (λ l. is_in l f) (down_at always n o e.1)) ∙ h)) [
      | inl here ↦ subst (Uses c o) (sym (obj_same f o here)) itself
      | inr later ↦
          let via : (g : Obj) × (is_in (embeds c o) g ≡ true) × (is_in (down c always n g) f ≡ true) = of_flat n always (embeds c o) f later in
          from_further o via.0 f via.1 (down_uses n via.0 f via.2)
    ]
    | inr e ↦ down_uses n o f (sym (ap (λ l. is_in l f) (down_past always n o e.1)) ∙ h)
  ]

pub uses_are_all : UsesAreAll
uses_are_all c o f earlier = (λ h. down_uses c (suc o.template) o f (sym (in_ordered (down c always (suc o.template) o) f) ∙ h), uses_further c earlier o f)

pub show_is_of_marks : ShowIsOfMarks
show_is_of_marks c o earlier = show_of_marks c earlier o

contained : (c : Content) (os : List Obj) (f : Obj) → is_in os f ≡ true → Contains {X = Obj × Word} (map (λ f. (f, show c f)) os) (f, show c f)
contained c [] f h = absurd (true≢false (sym h))
contained c (o ∷ os) f h = elim (or_cases _ _ h) [
  | inl here ↦ (0, omega arith, ap (λ o. (o, show c o)) (sym (obj_same f o here)))
  | inr later ↦ let rest : Contains {X = Obj × Word} (map (λ f. (f, show c f)) os) (f, show c f) = contained c os f later in (suc rest.0, omega (arith, rest.1), rest.2)
]

pub looks_show : LooksShow
looks_show c o f earlier h = contained c (uses c o) f (uses_further c earlier o f h)
