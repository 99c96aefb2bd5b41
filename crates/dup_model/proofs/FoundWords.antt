-- What a work has found is what its words say.
use Rattle.std.proofs.Common.{◌≡◌, ℕ, zero, suc, inl, inr, Bool, true, false, cond, List, [], ◌∷◌, map, refl, sym, ap, subst, ◌∙◌, arith}
use Rattle.std.specs.List.{list_any, flat_map}
use Rattle.std.proofs.lemmas.Bool.{true≢false, or_cases, or_left}
use Rattle.std.proofs.lemmas.Bool.Decides.{eqb_tells}
use Rattle.dup_names.specs.declared.object.Obj.{Obj}
use Rattle.dup_names.specs.Words.{Path}
use Rattle.dup_model.specs.Content.{Content}
use Rattle.dup_model.specs.Skeletons.{embeds}
use Rattle.dup_model.specs.Looks.{down}
use Rattle.dup_model.specs.Pages.{pages}
use Rattle.dup_names.specs.Objects.{same_obj, is_in}
use Rattle.dup_model.specs.Found.{found}
use Rattle.dup_model.specs.Embeddings.{EmbedsEarlier}
use Rattle.dup_model.specs.Found.{Found, FoundIsFound}
use Rattle.dup_model.specs.Found.Found.{of_page, embedded}
use Rattle.dup_names.proofs.ObjectOrder.{obj_same, obj_itself}
use Rattle.dup_model.proofs.Reached.{or_right}
use Rattle.dup_model.proofs.Earlier.{down_at, down_past, down_itself, of_flat}
use Rattle.dup_model.proofs.Finds.{in_found, found_further}

module _ (c : Content) (done : List Obj) where
  abbrev is_open : Obj → Bool
  is_open = is_in done

  from_down : (n : ℕ) (o f : Obj) → Found c done o → is_in (down c is_open n o) f ≡ true → Found c done f
  from_down zero o f start h = absurd (true≢false (sym h))
  from_down (suc n) o f start h = elim (eqb_tells o.template n) [
    | inl e ↦ elim (or_cases (same_obj f o) (is_in (cond (is_open o) (flat_map (down c is_open n) (embeds c o)) []) f) (sym (ap (λ l. is_in l f) (down_at c is_open n o e.1)) ∙ h)) [
      | inl here ↦ subst (Found c done) (sym (obj_same f o here)) start
      | inr later ↦ by_open (is_open o) refl (λ g k. from_down n g f k) later
    ]
    | inr e ↦ from_down n o f start (sym (ap (λ l. is_in l f) (down_past c is_open n o e.1)) ∙ h)
  ]
    where
      by_open : (b : Bool) → is_open o ≡ b → ((g : Obj) → Found c done g → is_in (down c is_open n g) f ≡ true → Found c done f) →
          is_in (cond b (flat_map (down c is_open n) (embeds c o)) []) f ≡ true → Found c done f
      by_open true is onward h =
          let via : (g : Obj) × (is_in (embeds c o) g ≡ true) × (is_in (down c is_open n g) f ≡ true) = of_flat c n is_open (embeds c o) f h in
          onward via.0 (embedded start is via.0 via.1) via.2
      by_open false is onward h = absurd (true≢false (sym h))

  a_page : (f : Obj) (ps : List (Path × Obj)) → list_any {X = Path × Obj} (λ p. is_in (down c is_open (suc p.1.template) p.1) f) ps ≡ true →
      (o : Obj) × (is_in (map (λ p. p.1) ps) o ≡ true) × (is_in (down c is_open (suc o.template) o) f ≡ true)
  a_page f [] h = absurd (true≢false (sym h))
  a_page f (p ∷ ps) h = elim (or_cases (is_in (down c is_open (suc p.1.template) p.1) f) (list_any {X = Path × Obj} (λ p. is_in (down c is_open (suc p.1.template) p.1) f) ps) h) [
    | inl here ↦ (p.1, or_left (same_obj p.1 p.1) (is_in (map (λ p. p.1) ps) p.1) (obj_itself p.1), here)
    | inr later ↦
        let rest : (o : Obj) × (is_in (map (λ p. p.1) ps) o ≡ true) × (is_in (down c is_open (suc o.template) o) f ≡ true) = a_page f ps later in
        (rest.0, or_right (same_obj rest.0 p.1) (is_in (map (λ p. p.1) ps) rest.0) rest.1, rest.2)
  ]

  of_pages : (o : Obj) (ps : List (Path × Obj)) → is_in (map (λ p. p.1) ps) o ≡ true → list_any {X = Path × Obj} (λ p. is_in (down c is_open (suc p.1.template) p.1) o) ps ≡ true
  of_pages o [] h = absurd (true≢false (sym h))
  of_pages o (p ∷ ps) h = elim (or_cases (same_obj o p.1) (is_in (map (λ p. p.1) ps) o) h) [
    | inl here ↦ or_left (is_in (down c is_open (suc p.1.template) p.1) o) (list_any {X = Path × Obj} (λ p. is_in (down c is_open (suc p.1.template) p.1) o) ps)
        (subst (λ x. is_in (down c is_open (suc x.template) x) o ≡ true) (obj_same o p.1 here) (down_itself c is_open (suc o.template) o (omega arith)))
    | inr later ↦ or_right (is_in (down c is_open (suc p.1.template) p.1) o) (list_any {X = Path × Obj} (λ p. is_in (down c is_open (suc p.1.template) p.1) o) ps) (of_pages o ps later)
  ]

  to_words : (f : Obj) → is_in (found c done) f ≡ true → Found c done f
  to_words f h =
      let at : (o : Obj) × (is_in (map (λ p. p.1) (pages c)) o ≡ true) × (is_in (down c is_open (suc o.template) o) f ≡ true) = a_page f (pages c) (sym (in_found c done f) ∙ h) in
      from_down (suc at.0.template) at.0 f (of_page at.1) at.2

  from_words : EmbedsEarlier c → {f : Obj} → Found c done f → is_in (found c done) f ≡ true
  from_words earlier (of_page {o} h) = in_found c done o ∙ of_pages o (pages c) h
  from_words earlier (embedded {f} k is g h) = found_further c done earlier f g (from_words earlier k) is h

pub found_is_found : FoundIsFound
found_is_found c done o earlier = (to_words c done o, from_words c done earlier)
