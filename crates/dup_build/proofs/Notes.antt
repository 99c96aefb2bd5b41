-- The first stale note.
use Rattle.std.proofs.Common.{◌≡◌, ◌↔◌, ℕ, ◌+◌, ◌<◌, Bool, true, false, not, cond, inl, inr, List, [], ◌∷◌, ◌++◌, take, drop, length, get_or, Option, Some, None, refl, sym, ap, ◌∙◌, append_assoc}
use Rattle.std.specs.Prelude.{IfSome}
use Rattle.std.specs.Option.{option_or}
use Rattle.std.specs.List.{find}
use Rattle.std.specs.Ordering.{is_lt}
use Rattle.std.proofs.lemmas.List.{take_more, take-append-drop}
use Rattle.std.proofs.lemmas.Option.{none-some, same_Some}
use Rattle.std.proofs.lemmas.Bool.{true≢false, cases_Bool, or_left}
use Rattle.dup_names.specs.Order.{obj_cmp}
use Rattle.dup_names.specs.declared.object.Obj.{Obj}
use Rattle.dup_names.specs.declared.object.Item.{Item}
use Rattle.dup_template.specs.declared.value.Value.{Value}
use Rattle.dup_model.specs.Content.{Content, value}
use Rattle.dup_names.specs.Objects.{same_obj, is_in}
use Rattle.dup_model.specs.Touched.{same_value}
use Rattle.dup_machine.specs.Works.{first_of, next_of}
use Rattle.dup_model.specs.Expansions.{stale}
use Rattle.dup_names.proofs.ObjectOrder.{obj_itself}
use Rattle.dup_model.proofs.Finds.{value_itself}
use Rattle.dup_machine.proofs.Levels.{find_in}
use Rattle.dup_model.proofs.Incremental.{value_same}

module _ (c : Content) where
  skipped : (ns ms : List (Item × Value)) → stale c ns ≡ None → stale c (ns ++ ms) ≡ stale c ms
  skipped [] ms is = refl
  skipped (n ∷ ns) ms is = by_test (not (same_value (value c n.0) n.1)) (λ later. skipped ns ms later) is
    where
      by_test : (b : Bool) → (stale c ns ≡ None → stale c (ns ++ ms) ≡ stale c ms) → cond b (Some n) (stale c ns) ≡ None → cond b (Some n) (stale c (ns ++ ms)) ≡ stale c ms
      by_test true later is = absurd (none-some n (sym is))
      by_test false later is = later is

  -- a test that tells whether a note agrees
  pub tells : (n : Item × Value) (b : Bool) → (b ≡ true) ↔ (value c n.0 ≡ n.1) → same_value (value c n.0) n.1 ≡ b
  tells n true agrees = ap (same_value (value c n.0)) (sym (agrees.0 refl)) ∙ value_itself (value c n.0)
  tells n false agrees = elim (cases_Bool (same_value (value c n.0) n.1)) [
    | inr isnt ↦ isnt
    | inl is ↦ absurd (true≢false (sym (agrees.1 (value_same (value c n.0) n.1 is))))
  ]

  module _ (ns : List (Item × Value)) (i : ℕ) (n : Item × Value) (below : i < length ns) (is : n ≡ get_or ns i n) (before : stale c (take i ns) ≡ None) where
    one_more : take (i + 1) ns ≡ take i ns ++ n ∷ []
    one_more = take_more ns i n below ∙ ap (λ m. take i ns ++ m ∷ []) (sym is)

    pub agrees_next : same_value (value c n.0) n.1 ≡ true → stale c (take (i + 1) ns) ≡ None
    agrees_next good = ap (stale c) one_more ∙ skipped (take i ns) (n ∷ []) before ∙ ap (λ b. cond (not b) (Some n) None) good

    pub stale_next : same_value (value c n.0) n.1 ≡ false → stale c ns ≡ Some n
    stale_next bad =
        ap (stale c) (sym (take-append-drop (i + 1) ns) ∙ ap (λ l. l ++ drop (i + 1) ns) one_more ∙ append_assoc (take i ns) (n ∷ []) (drop (i + 1) ns))
        ∙ skipped (take i ns) (n ∷ drop (i + 1) ns) before
        ∙ ap (λ b. cond (not b) (Some n) (stale c (drop (i + 1) ns))) bad

first_in : (os : List Obj) (o : Obj) → first_of os ≡ Some o → is_in os o ≡ true
first_in [] o is = absurd (none-some o is)
first_in (x ∷ xs) o is = or_left (same_obj o x) (is_in xs o) (ap (λ y. same_obj y x) (sym (same_Some x o is)) ∙ obj_itself x)

next_in : (last : Option Obj) (os : List Obj) (o : Obj) → next_of last os ≡ Some o → is_in os o ≡ true
next_in None os o is = first_in os o is
next_in (Some last) os o is = by_find (find (λ x. is_lt (obj_cmp last x)) os) refl is
  where
    by_find : (f : Option Obj) → find (λ x. is_lt (obj_cmp last x)) os ≡ f → option_or f (first_of os) ≡ Some o → is_in os o ≡ true
    by_find None none is = first_in os o is
    by_find (Some x) some is = find_in (λ x. is_lt (obj_cmp last x)) os o (some ∙ is)

-- what is handed next waits
pub next_waits : (last : Option Obj) (os : List Obj) (r : Option Obj) → r ≡ next_of last os → IfSome r (λ o. is_in os o ≡ true)
next_waits last os None is = tt
next_waits last os (Some o) is = next_in last os o (sym is)
