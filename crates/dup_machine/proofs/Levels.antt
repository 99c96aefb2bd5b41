-- Which object is handed next, and which are joined next.
use Rattle.std.proofs.Common.{◌≡◌, ℕ, zero, suc, ◌<◌, inl, inr, Bool, true, false, not, cond, ◌||◌, ◌&&◌, List, [], ◌∷◌, refl, sym, ap, ◌∙◌, arith}
use Rattle.std.specs.Prelude.{Option, Some, None}
use Rattle.std.specs.List.{list_all, find}
use Rattle.std.specs.Option.{option_or}
use Rattle.std.specs.Ordering.{is_lt}
use Rattle.std.proofs.lemmas.Option.{none-some, same_Some}
use Rattle.std.proofs.lemmas.Bool.{true≢false, cases_Bool, or_left, and_parts, and_from, not-true}
use Rattle.dup_names.specs.Order.{obj_cmp}
use Rattle.dup_names.specs.declared.object.Obj.{Obj}
use Rattle.dup_names.specs.Objects.{same_obj, is_in}
use Rattle.dup_model.specs.Content.{Content}
use Rattle.dup_model.specs.Skeletons.{embeds}
use Rattle.dup_machine.specs.World.{Work}
use Rattle.dup_model.specs.Found.{found, waiting}
use Rattle.dup_machine.specs.Works.{unjoined, level, next_of}
use Rattle.dup_model.specs.Embeddings.{EmbedsEarlier}
use Rattle.dup_model.proofs.Reached.{or_right}
use Rattle.dup_names.proofs.ObjectOrder.{obj_itself}
use Rattle.dup_model.proofs.Earlier.{embeds_earlier}
use Rattle.dup_model.proofs.Objects.{in_filter}
use Rattle.dup_model.proofs.Finds.{done_unless_waiting, found_further}

pub find_in : (f : Obj → Bool) (os : List Obj) (o : Obj) → find f os ≡ Some o → is_in os o ≡ true
find_in f [] o is = absurd (none-some o is)
find_in f (x ∷ xs) o is = by_test (f x) (λ later. find_in f xs o later) is
  where
    by_test : (b : Bool) → (find f xs ≡ Some o → is_in xs o ≡ true) → cond b (Some x) (find f xs) ≡ Some o → (same_obj o x || is_in xs o) ≡ true
    by_test true later is = or_left _ _ (ap (λ y. same_obj y x) (sym (same_Some x o is)) ∙ obj_itself x)
    by_test false later is = or_right _ _ (later is)

pub next_in : (last : Option Obj) (o : Obj) (os : List Obj) → (x : Obj) × (next_of last (o ∷ os) ≡ Some x) × (is_in (o ∷ os) x ≡ true)
next_in None o os = (o, refl, or_left _ _ (obj_itself o))
next_in (Some last) o os = by_find (find (λ x. is_lt (obj_cmp last x)) (o ∷ os)) refl
  where
    by_find : (y : Option Obj) → find (λ x. is_lt (obj_cmp last x)) (o ∷ os) ≡ y → (x : Obj) × (option_or y (Some o) ≡ Some x) × (is_in (o ∷ os) x ≡ true)
    by_find None is = (o, refl, or_left _ _ (obj_itself o))
    by_find (Some x) is = (x, refl, find_in (λ x. is_lt (obj_cmp last x)) (o ∷ os) x is)

not_all : (f : Obj → Bool) (os : List Obj) → list_all f os ≡ false → (g : Obj) × (is_in os g ≡ true) × (f g ≡ false)
not_all f [] h = absurd (true≢false h)
not_all f (o ∷ os) h = by_first (f o) refl (λ later. not_all f os later) h
  where
    by_first : (b : Bool) → f o ≡ b → (list_all f os ≡ false → (g : Obj) × (is_in os g ≡ true) × (f g ≡ false)) → (b && list_all f os) ≡ false → (g : Obj) × (is_in (o ∷ os) g ≡ true) × (f g ≡ false)
    by_first false is later h = (o, or_left _ _ (obj_itself o), is)
    by_first true is later h = let rest : (g : Obj) × (is_in os g ≡ true) × (f g ≡ false) = later h in (rest.0, or_right _ _ rest.1, rest.2)

module _ (c : Content) (work : Work) (earlier : EmbedsEarlier c) (none : waiting c work.done ≡ []) where
  pub unjoined_parts : (f : Obj) → is_in (unjoined c work) f ≡ true → (is_in (found c work.done) f ≡ true) × (is_in work.looked f ≡ false)
  unjoined_parts f h =
      let both : (is_in (found c work.done) f ≡ true) × (not (is_in work.looked f) ≡ true) = and_parts _ _ (sym (in_filter (λ o. not (is_in work.looked o)) (found c work.done) f) ∙ h) in
      (both.0, not-true _ both.1)

  unjoined_from : (f : Obj) → is_in (found c work.done) f ≡ true → is_in work.looked f ≡ false → is_in (unjoined c work) f ≡ true
  unjoined_from f h k = in_filter (λ o. not (is_in work.looked o)) (found c work.done) f ∙ and_from _ _ h (ap not k)

  -- below an object without a look there is one whose embedded objects all have looks
  pub some_level : (n : ℕ) (u : Obj) → u.template < n → is_in (unjoined c work) u ≡ true → (v : Obj) × (is_in (level c work) v ≡ true)
  some_level zero u small h = absurd (omega (arith, small))
  some_level (suc n) u small h = elim (cases_Bool (list_all (is_in work.looked) (embeds c u))) [
    | inl all ↦ (u, in_filter (λ o. list_all (is_in work.looked) (embeds c o)) (unjoined c work) u ∙ and_from _ _ h all)
    | inr some ↦
        let g : (g : Obj) × (is_in (embeds c u) g ≡ true) × (is_in work.looked g ≡ false) = not_all (is_in work.looked) (embeds c u) some in
        let at : is_in (found c work.done) u ≡ true = (unjoined_parts u h).0 in
        some_level n g.0 (omega (arith, small, embeds_earlier c earlier u g.0 g.1))
        (unjoined_from g.0 (found_further c work.done earlier u g.0 at (done_unless_waiting c work.done none u at) g.1) g.2)
  ]
