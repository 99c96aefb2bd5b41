-- The fact on closed sets, over tests.
use Rattle.dup_model.proofs.Closed.{IsClosedBy}
use Rattle.dup_model.specs.Needs.{IsClosed, NeededAreChanged}
use Rattle.std.proofs.Common.{◌≡◌, ℕ, ◌⊎◌, inl, inr, Bool, true, false, not, ◌||◌, ◌&&◌, List, [], ◌∷◌, Option, Some, None, refl, sym, ap, ◌∙◌}
use Rattle.std.specs.List.{list_any}
use Rattle.std.specs.Option.{is_some, is_none, option_eq}
use Rattle.std.specs.Prelude.{bytes_eq}
use Rattle.std.specs.Cmp.{nat_eq_equiv}
use Rattle.std.specs.Cmp.Lexicographic.{pointwise, nat_list_eq_equiv, options_equiv}
use Rattle.std.proofs.lemmas.Bool.{not-false, true≢false, cases_Bool, and_parts, or_cases}
use Rattle.dup_names.specs.declared.object.Obj.{Obj}
use Rattle.dup_names.proofs.ObjectOrder.{option_same, bytes_same, obj_same}
use Rattle.dup_names.specs.Words.{Path}
use Rattle.dup_names.specs.declared.value.Look.{Look}
use Rattle.dup_model.specs.Needs.{Looks, Paths, mixed, same_use, same_look, clash, links, needs, changed, IsSound}
use Rattle.dup_names.specs.Objects.{same_obj}

-- what the tests of sameness tell

pub list_same : {A : Type 0} (E : A → A → Bool) → ((x y : A) → E x y ≡ true → x ≡ y) → (xs ys : List A) → pointwise E xs ys ≡ true → xs ≡ ys
list_same E same [] [] is = refl
list_same E same [] (y ∷ ys) is = absurd (true≢false (sym is))
list_same E same (x ∷ xs) [] is = absurd (true≢false (sym is))
list_same E same (x ∷ xs) (y ∷ ys) is = let both : _ × _ = and_parts _ _ is in λ i. same x y both.0 i ∷ list_same E same xs ys both.1 i

use_same : (a b : Obj × List ℕ) → same_use a b ≡ true → a ≡ b
use_same a b is =
    let both : (same_obj a.0 b.0 ≡ true) × (bytes_eq a.1 b.1 ≡ true) = and_parts _ _ is in
    λ i. (obj_same a.0 b.0 both.0 i, bytes_same a.1 b.1 both.1 i)

pub look_same : (a b : Look) → same_look a b ≡ true → a ≡ b
look_same a b is =
    let three : _ × (pointwise bytes_eq a.links b.links ≡ true) = and_parts _ _ is in
    let two : _ × (pointwise same_use a.uses b.uses ≡ true) = and_parts _ _ three.0 in
    let one : (same_obj a.obj b.obj ≡ true) × (bytes_eq a.bytes b.bytes ≡ true) = and_parts _ _ two.0 in
    λ i. record {
      obj = obj_same a.obj b.obj one.0 i;
      bytes = bytes_same a.bytes b.bytes one.1 i;
      uses = list_same same_use use_same a.uses b.uses two.1 i;
      links = list_same bytes_eq bytes_same a.links b.links three.1 i;
    }

-- a clash is one both ways

any_ap : {A : Type 0} (f g : A → Bool) → ((x : A) → f x ≡ g x) → (xs : List A) → list_any f xs ≡ list_any g xs
any_ap f g same [] = refl
any_ap f g same (x ∷ xs) = rw (same x, any_ap f g same xs)

or_swap : (a b c d : Bool) → ((a || b) || (c || d)) ≡ ((a || c) || (b || d))
or_swap true b c d = refl
or_swap false true true d = refl
or_swap false true false d = refl
or_swap false false c d = refl

any_none : {A : Type 0} (xs : List A) → list_any (λ x. false) xs ≡ false
any_none [] = refl
any_none (x ∷ xs) = any_none xs

any_or : {A : Type 0} (f g : A → Bool) (xs : List A) → list_any (λ x. f x || g x) xs ≡ (list_any f xs || list_any g xs)
any_or f g [] = refl
any_or f g (x ∷ xs) = rw (any_or f g xs) (or_swap (f x) (g x) (list_any f xs) (list_any g xs))

any_swap : {A B : Type 0} (f : A → B → Bool) (xs : List A) (ys : List B) → list_any (λ x. list_any (λ y. f x y) ys) xs ≡ list_any (λ y. list_any (λ x. f x y) xs) ys
any_swap f [] ys = sym (any_none ys)
any_swap f (x ∷ xs) ys = rw (any_swap f xs ys) (sym (any_or (f x) (λ y. list_any (λ z. f z y) xs) ys))

obj_flip : (a b : Obj) → same_obj a b ≡ same_obj b a
obj_flip a b = rw (nat_eq_equiv.symm a.template b.template, (options_equiv nat_list_eq_equiv).symm a.key b.key)

differ_flip : (x y : Obj × List ℕ) → (same_obj x.0 y.0 && not (bytes_eq x.1 y.1)) ≡ (same_obj y.0 x.0 && not (bytes_eq y.1 x.1))
differ_flip x y = rw (obj_flip x.0 y.0, nat_list_eq_equiv.symm x.1 y.1)

pub clash_flip : (a b : Option Look) → clash a b ≡ clash b a
clash_flip None None = refl
clash_flip None (Some b) = refl
clash_flip (Some a) None = refl
clash_flip (Some a) (Some b) =
    any_swap (λ x y. same_obj x.0 y.0 && not (bytes_eq x.1 y.1)) a.uses b.uses
    ∙ any_ap _ _ (λ y. any_ap _ _ (λ x. differ_flip x y) a.uses) b.uses

-- the fact

apart : (s : Paths) (p q : Path) → s p ≡ true → s q ≡ false → bytes_eq p q ≡ false
apart s p q inside out = told (bytes_eq p q) refl
  where
    told : (r : Bool) → bytes_eq p q ≡ r → r ≡ false
    told true is = absurd (true≢false (sym inside ∙ ap s (bytes_same p q is) ∙ out))
    told false is = refl

apart_back : (s : Paths) (p q : Path) → s p ≡ false → s q ≡ true → bytes_eq q p ≡ false
apart_back s p q out inside = apart s q p inside out

or_second : (a b c : Bool) → b ≡ true → (a || b || c) ≡ true
or_second true b c h = refl
or_second false true c h = refl
or_second false false c h = absurd (true≢false (sym h))

or_third : (a b c : Bool) → c ≡ true → (a || b || c) ≡ true
or_third true b c h = refl
or_third false true c h = refl
or_third false false c h = h

some_changed : (e t : Looks) (q : Path) → (e q ≡ t q → ⊥) → changed e t q ≡ true
some_changed e t q differ = told (option_eq same_look (e q) (t q)) refl
  where
    told : (r : Bool) → option_eq same_look (e q) (t q) ≡ r → not r ≡ true
    told true is = absurd (differ (option_same same_look look_same (e q) (t q) is))
    told false is = refl

none_of : {A : Type 0} (o : Option A) → is_some o ≡ false → is_none o ≡ true
none_of None is = refl
none_of (Some x) is = absurd (true≢false is)

some_or_none : {A : Type 0} (o : Option A) → is_none o ≡ true → is_some o ≡ true → ⊥
some_or_none None none some = true≢false (sym some)
some_or_none (Some x) none some = true≢false (sym none)

module _ (e t : Looks) (s : Paths) where
  inside_as : (p : Path) → s p ≡ true → mixed s e t p ≡ t p
  inside_as p inside = rw inside

  out_as : (p : Path) → s p ≡ false → mixed s e t p ≡ e p
  out_as p out = rw out

  by_clash : (p q : Path) → bytes_eq p q ≡ false → clash (t p) (e q) ≡ true → needs e t p q ≡ true
  by_clash p q other h = rw (other, h)

  by_link : (p q : Path) → bytes_eq p q ≡ false → links (t p) q ≡ true → is_none (e q) ≡ true → needs e t p q ≡ true
  by_link p q other h none = rw (other, h, none) (or_second (clash (t p) (e q)) true (is_none (t p) && links (e q) p) refl)

  by_drop : (p q : Path) → bytes_eq p q ≡ false → is_none (t p) ≡ true → links (e q) p ≡ true → needs e t p q ≡ true
  by_drop p q other none h = rw (other, h, none) (or_third (clash (t p) (e q)) (links (t p) q && is_none (e q)) true refl)

  module _ (old : IsSound e) (new : IsSound t) (closed : IsClosedBy e t s) where
    leads_at : (p q : Path) → links (mixed s e t p) q ≡ true → (x y : Bool) → s p ≡ x → s q ≡ y → (b : Bool) → is_some (mixed s e t q) ≡ b → b ≡ true
    leads_at p q h x y p_is q_is true is = refl
    leads_at p q h true true p_in q_in false is =
        sym is ∙ ap is_some (inside_as q q_in) ∙ new.leads p q (ap (λ o. links o q) (sym (inside_as p p_in)) ∙ h)
    leads_at p q h false false p_out q_out false is =
        sym is ∙ ap is_some (out_as q q_out) ∙ old.leads p q (ap (λ o. links o q) (sym (out_as p p_out)) ∙ h)
    leads_at p q h true false p_in q_out false is =
        let there : links (t p) q ≡ true = ap (λ o. links o q) (sym (inside_as p p_in)) ∙ h in
        let lacks : is_some (e q) ≡ false = ap is_some (sym (out_as q q_out)) ∙ is in
        absurd (true≢false (sym (closed p q p_in (by_link p q (apart s p q p_in q_out) there (none_of (e q) lacks))
        (some_changed e t q (λ same. true≢false (sym (new.leads p q there) ∙ ap is_some (sym same) ∙ lacks)))) ∙ q_out))
    leads_at p q h false true p_out q_in false is =
        let there : links (e p) q ≡ true = ap (λ o. links o q) (sym (out_as p p_out)) ∙ h in
        let lacks : is_some (t q) ≡ false = ap is_some (sym (inside_as q q_in)) ∙ is in
        absurd (true≢false (sym (closed q p q_in (by_drop q p (apart s q p q_in p_out) (none_of (t q) lacks) there)
        (some_changed e t p (λ same. true≢false (sym (new.leads p q (ap (λ o. links o q) (sym same) ∙ there)) ∙ lacks)))) ∙ p_out))

    across : (p q : Path) → s p ≡ true → s q ≡ false → (b : Bool) → clash (t p) (e q) ≡ b → b ≡ false
    across p q p_in q_out false is = refl
    across p q p_in q_out true is =
        absurd (true≢false (sym (closed p q p_in (by_clash p q (apart s p q p_in q_out) is)
        (some_changed e t q (λ same. true≢false (sym is ∙ ap (clash (t p)) same ∙ new.agrees p q)))) ∙ q_out))

    agrees_at : (p q : Path) (x y : Bool) → s p ≡ x → s q ≡ y → clash (mixed s e t p) (mixed s e t q) ≡ false
    agrees_at p q true true p_in q_in = rw (p_in, q_in) (new.agrees p q)
    agrees_at p q false false p_out q_out = rw (p_out, q_out) (old.agrees p q)
    agrees_at p q true false p_in q_out = rw (p_in, q_out) (across p q p_in q_out (clash (t p) (e q)) refl)
    agrees_at p q false true p_out q_in = rw (p_out, q_in) (clash_flip (e p) (t q) ∙ across q p q_in p_out (clash (t q) (e p)) refl)

    pub sound_from_closed : IsSound (mixed s e t)
    sound_from_closed = record {
      leads = λ p q h. leads_at p q h (s p) (s q) refl refl (is_some (mixed s e t q)) refl;
      agrees = λ p q. agrees_at p q (s p) (s q) refl refl;
    }

  module _ (after : IsSound (mixed s e t)) where
    by_which : (p q : Path) → s p ≡ true → s q ≡ false →
        ((clash (t p) (e q) || links (t p) q && is_none (e q)) ≡ true) ⊎ ((is_none (t p) && links (e q) p) ≡ true) → ⊥
    by_which p q p_in q_out (inr left) =
        let parts : (is_none (t p) ≡ true) × (links (e q) p ≡ true) = and_parts _ _ left in
        some_or_none (t p) parts.0 (ap is_some (sym (inside_as p p_in)) ∙ after.leads q p (ap (λ o. links o p) (out_as q q_out) ∙ parts.1))
    by_which p q p_in q_out (inl either) = elim (or_cases _ _ either) [
      | inl clashes ↦ true≢false (sym clashes ∙ sym (ap (λ o. clash o (e q)) (inside_as p p_in)) ∙ sym (ap (clash (mixed s e t p)) (out_as q q_out)) ∙ after.agrees p q)
      | inr linked ↦
          let parts : (links (t p) q ≡ true) × (is_none (e q) ≡ true) = and_parts _ _ linked in
          some_or_none (e q) parts.1 (ap is_some (sym (out_as q q_out)) ∙ after.leads p q (ap (λ o. links o q) (inside_as p p_in) ∙ parts.0))
    ]

    kept_out : (p q : Path) → s p ≡ true → s q ≡ false → needs e t p q ≡ true → ⊥
    kept_out p q p_in q_out h = by_which p q p_in q_out (or_cases _ _ (and_parts _ _ h).1)

    pub closed_from_sound : IsClosed e t s
    closed_from_sound p q p_in h = closed_at (cases_Bool (s q))
      where
        closed_at : (s q ≡ true) ⊎ (s q ≡ false) → s q ≡ true
        closed_at (inl inside) = inside
        closed_at (inr out) = absurd (kept_out p q p_in out h)

-- what a path needs is changed, where the target is sound
module _ (e t : Looks) (new : IsSound t) where
  unchanged_same : (q : Path) → changed e t q ≡ false → e q ≡ t q
  unchanged_same q is = option_same same_look look_same (e q) (t q) (not-false _ is)

  needed_either : (p q : Path) → e q ≡ t q →
      ((clash (t p) (e q) || links (t p) q && is_none (e q)) ≡ true) ⊎ ((is_none (t p) && links (e q) p) ≡ true) → ⊥
  needed_either p q same (inr left) =
      let parts : (is_none (t p) ≡ true) × (links (e q) p ≡ true) = and_parts _ _ left in
      some_or_none (t p) parts.0 (new.leads q p (ap (λ o. links o p) (sym same) ∙ parts.1))
  needed_either p q same (inl either) = elim (or_cases _ _ either) [
    | inl clashes ↦ true≢false (sym clashes ∙ ap (clash (t p)) same ∙ new.agrees p q)
    | inr linked ↦
        let parts : (links (t p) q ≡ true) × (is_none (e q) ≡ true) = and_parts _ _ linked in
        some_or_none (e q) parts.1 (ap is_some same ∙ new.leads p q parts.0)
  ]

  pub needed_changed : NeededAreChanged e t
  needed_changed p q changes needed = elim (cases_Bool (changed e t q)) [
    | inl is ↦ is
    | inr is ↦ absurd (needed_either p q (unchanged_same q is) (or_cases _ _ (and_parts _ _ needed).1))
  ]

pub IsSound-alike : (a b : Looks) → ((q : Path) → a q ≡ b q) → IsSound b → IsSound a
IsSound-alike a b same sound = record {
  leads = λ p q h. ap is_some (same q) ∙ sound.leads p q (ap (λ o. links o q) (sym (same p)) ∙ h);
  agrees = λ p q. ap (λ o. clash o (a q)) (same p) ∙ ap (clash (b p)) (same q) ∙ sound.agrees p q;
}
