-- Walks.
use Rattle.std.proofs.Common.{◌≡◌, ◌↔◌, inl, inr, Bool, true, false, cond, ◌||◌, List, [], ◌∷◌, ◌++◌, refl, sym, ap, ◌∙◌}
use Rattle.std.proofs.lemmas.Bool.{true≢false, cases_Bool, or_cases, or_left}
use Rattle.dup_names.specs.Order.{obj_cmp}
use Rattle.dup_names.specs.Words.{in_order}
use Rattle.dup_names.specs.declared.object.Obj.{Obj}
use Rattle.dup_names.specs.Objects.{same_obj, is_in}
use Rattle.dup_names.proofs.ObjectOrder.{obj_same}
use Rattle.dup_model.proofs.Reached.{or_right}
use Rattle.dup_names.proofs.ObjectOrder.{obj_itself}
use Rattle.dup_model.proofs.Earlier.{in_ordered}
use Rattle.dup_model.proofs.Ordering.{any_append}
use Rattle.dup_build.specs.declared.node.Node.{Node}
use Rattle.dup_sets.specs.Entries.{at}
use Rattle.dup_build.specs.Nodes.{below, children_of}
use Rattle.dup_machine.specs.Reached.{Reached, Walked}
use Rattle.dup_machine.specs.Reached.Reached.{root, onward}

or_false : (x y : Bool) → (x || y) ≡ false → (x ≡ false) × (y ≡ false)
or_false true y h = absurd (true≢false h)
or_false false y h = (refl, h)

either_false : (x y : Bool) → x ≡ false → y ≡ false → (x || y) ≡ false
either_false x y h k = ap (λ b. b || y) h ∙ k

module _ (below : Obj → List Obj) (is_seen : Obj → Bool) where
  more_roots : (roots more : List Obj) → ((g : Obj) → is_in roots g ≡ true → is_in more g ≡ true) → {g : Obj} → Reached below is_seen roots g → Reached below is_seen more g
  more_roots roots more all (root {g} h new) = root (all g h) new
  more_roots roots more all (onward k g h new) = onward (more_roots roots more all k) g h new

  pub walked_none : (old : List Obj) → Walked below is_seen [] old old
  walked_none old = record {
    rooted = λ g h new. absurd (true≢false (sym h));
    keeps = λ g h. h;
    onward = λ f g h out k new. absurd (true≢false (sym h ∙ out));
    only = λ g h out. absurd (true≢false (sym h ∙ out));
  }

  pub walked_then : (rs ss old mid new : List Obj) → Walked below is_seen rs old mid → Walked below is_seen ss mid new → Walked below is_seen (rs ++ ss) old new
  walked_then rs ss old mid new one two = record {
    rooted = λ g h unseen. elim (or_cases (is_in rs g) (is_in ss g) (sym (any_append (same_obj g) rs ss) ∙ h)) [
      | inl first ↦ two.keeps g (one.rooted g first unseen)
      | inr second ↦ two.rooted g second unseen
    ];
    keeps = λ g h. two.keeps g (one.keeps g h);
    onward = λ f g h out k unseen. elim (cases_Bool (is_in mid f)) [
      | inl early ↦ two.keeps g (one.onward f g early out k unseen)
      | inr late ↦ two.onward f g h late k unseen
    ];
    only = λ g h out. elim (cases_Bool (is_in mid g)) [
      | inl early ↦ more_roots rs (rs ++ ss) (λ x k. any_append (same_obj x) rs ss ∙ or_left (is_in rs x) (is_in ss x) k) (one.only g early out)
      | inr late ↦ more_roots ss (rs ++ ss) (λ x k. any_append (same_obj x) rs ss ∙ or_right (is_in rs x) (is_in ss x) k) (two.only g h late)
    ];
  }

  pub walked_over : (o : Obj) (old : List Obj) → (is_seen o || is_in old o) ≡ true → Walked below is_seen (o ∷ []) old old
  walked_over o old over = record {
    rooted = λ g h unseen. elim (or_cases (same_obj g o) false h) [
      | inr never ↦ absurd (true≢false (sym never))
      | inl one ↦ elim (or_cases (is_seen o) (is_in old o) over) [
        | inl seen ↦ absurd (true≢false (sym (ap is_seen (obj_same g o one) ∙ seen) ∙ unseen))
        | inr there ↦ ap (is_in old) (obj_same g o one) ∙ there
      ]
    ];
    keeps = λ g h. h;
    onward = λ f g h out k new. absurd (true≢false (sym h ∙ out));
    only = λ g h out. absurd (true≢false (sym h ∙ out));
  }

  from_below : (o : Obj) → is_seen o ≡ false → {g : Obj} → Reached below is_seen (below o) g → Reached below is_seen (o ∷ []) g
  from_below o unseen (root {g} h new) = onward (root (or_left (same_obj o o) false (obj_itself o)) unseen) g h new
  from_below o unseen (onward k g h new) = onward (from_below o unseen k) g h new

  pub walked_down : (o : Obj) (old new : List Obj) → is_seen o ≡ false → Walked below is_seen (below o) (in_order obj_cmp (o ∷ old)) new → Walked below is_seen (o ∷ []) old new
  walked_down o old new unseen w = record {
    rooted = λ g h new_one. elim (or_cases (same_obj g o) false h) [
      | inr never ↦ absurd (true≢false (sym never))
      | inl one ↦ w.keeps g (in_ordered (o ∷ old) g ∙ or_left (same_obj g o) (is_in old g) one)
    ];
    keeps = λ g h. w.keeps g (in_ordered (o ∷ old) g ∙ or_right (same_obj g o) (is_in old g) h);
    onward = λ f g h out k new_one. elim (cases_Bool (same_obj f o)) [
      | inl one ↦ w.rooted g (ap (λ x. is_in (below x) g) (sym (obj_same f o one)) ∙ k) new_one
      | inr apart ↦ w.onward f g h (in_ordered (o ∷ old) f ∙ either_false (same_obj f o) (is_in old f) apart out) k new_one
    ];
    only = λ g h out. elim (cases_Bool (same_obj g o)) [
      | inl one ↦ root (or_left (same_obj g o) false one) (ap is_seen (obj_same g o one) ∙ unseen)
      | inr apart ↦ from_below o unseen (w.only g h (in_ordered (o ∷ old) g ∙ either_false (same_obj g o) (is_in old g) apart out))
    ];
  }

  pub walked_all : (roots new : List Obj) → Walked below is_seen roots [] new → (g : Obj) → (is_in new g ≡ true) ↔ Reached below is_seen roots g
  walked_all roots new w g = (λ h. w.only g h refl, λ r. inside r)
    where
      inside : {g : Obj} → Reached below is_seen roots g → is_in new g ≡ true
      inside (root {g} h unseen) = w.rooted g h unseen
      inside (onward {f} k g h unseen) = w.onward f g (inside k) refl h unseen

-- a walk may start at fewer roots, if all that are left out were seen
pub from_starts : (below : Obj → List Obj) (is_seen : Obj → Bool) (roots starts : List Obj) → ((g : Obj) → is_in starts g ≡ true → is_in roots g ≡ true) → {g : Obj} → Reached below is_seen starts g → Reached below is_seen roots g
from_starts below is_seen roots starts among way = more_roots below is_seen starts roots among way

pub to_starts : (below : Obj → List Obj) (is_seen : Obj → Bool) (roots starts : List Obj) → ((g : Obj) → is_in roots g ≡ true → is_seen g ≡ false → is_in starts g ≡ true) → {g : Obj} → Reached below is_seen roots g → Reached below is_seen starts g
to_starts below is_seen roots starts all (root {g} h new) = root (all g h new) new
to_starts below is_seen roots starts all (onward k g h new) = onward (to_starts below is_seen roots starts all k) g h new

-- past objects that lead to no others, all else is reached as before
module _ (below : Obj → List Obj) (stop others : Obj → Bool) (shut : (f g : Obj) → stop f ≡ true → is_in (below f) g ≡ true → stop g ≡ true) (roots : List Obj) where
  pub past_stops : {g : Obj} → Reached below others roots g → stop g ≡ false → Reached below (λ o. stop o || others o) roots g
  past_stops (root {g} h new) out = root h (either_false (stop g) (others g) out new)
  past_stops (onward {f} k g h new) out = onward (past_stops k (elim (cases_Bool (stop f)) [
    | inr isnt ↦ isnt
    | inl is ↦ absurd (true≢false (sym (shut f g is h) ∙ out))
  ])) g h (either_false (stop g) (others g) out new)

  pub without_stops : {g : Obj} → Reached below (λ o. stop o || others o) roots g → Reached below others roots g
  without_stops (root {g} h new) = root h (or_false (stop g) (others g) new).1
  without_stops (onward {f} k g h new) = onward (without_stops k) g h (or_false (stop g) (others g) new).1

pub below_within : (nodes : List (Obj × Node)) (dropped : List Obj) (o g : Obj) → is_in (below nodes dropped o) g ≡ true → is_in (children_of (at nodes o)) g ≡ true
below_within nodes dropped o g h = by_test (is_in dropped o) h
  where
    by_test : (b : Bool) → is_in (cond b [] (children_of (at nodes o))) g ≡ true → is_in (children_of (at nodes o)) g ≡ true
    by_test true h = absurd (true≢false (sym h))
    by_test false h = h
