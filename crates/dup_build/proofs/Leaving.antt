-- What comes loose on the way to other pages.
use Rattle.std.proofs.Common.{◌≡◌, ℕ, ◌+◌, ◌<◌, arith, inl, inr, Bool, true, false, cond, ◌||◌, List, [], ◌∷◌, ◌++◌, length, take, drop, get_or, refl, sym, ap, subst, ◌∙◌}
use Rattle.std.specs.List.{flat_map}
use Rattle.std.proofs.lemmas.Bool.{true≢false, or_cases, or_left}
use Rattle.std.proofs.lemmas.List.{length-map, map-append, take-append-drop}
use Rattle.std.proofs.Math.ListN.{get_or-map}
use Rattle.dup_names.specs.Order.{obj_cmp}
use Rattle.dup_names.specs.Words.{in_order, Path}
use Rattle.dup_names.specs.declared.object.Obj.{Obj}
use Rattle.dup_names.specs.Objects.{same_obj, is_in}
use Rattle.dup_names.proofs.ObjectOrder.{obj_same}
use Rattle.dup_model.proofs.Earlier.{in_ordered}
use Rattle.dup_model.proofs.Ordering.{any_append}
use Rattle.dup_model.proofs.Reached.{or_right}
use Rattle.dup_sets.specs.Entries.{at}
use Rattle.dup_sets.proofs.Sets.{item_in}
use Rattle.dup_build.specs.declared.node.Node.{Node}
use Rattle.dup_build.specs.Nodes.{children_of}
use Rattle.dup_build.specs.Loose.{shown_by, LeavesPages, Loosened}
use Rattle.dup_build.proofs.Forgetting.{map_push}
use Rattle.dup_build.proofs.Holding.{member_some}
use Rattle.dup_build.proofs.Planning.{in_each}

-- the object of a page is shown
pub shown_at : (ps : List (Path × Obj)) (i : ℕ) (p : Path × Obj) → i < length ps → p ≡ get_or ps i p → is_in (shown_by ps) p.1 ≡ true
shown_at ps i p below at_i = item_in (shown_by ps) i p.1 (omega (arith, below, length-map ps (λ (p : Path × Obj). p.1)))
    (sym (get_or-map (λ (p : Path × Obj). p.1) ps i p ∙ ap (λ (p : Path × Obj). p.1) (sym at_i)))

module _ (old new : List (Path × Obj)) (left : List Obj) (i : ℕ) (p : Path × Obj) (below : i < length old) (at_i : p ≡ get_or old i p) (before : LeavesPages (take i old) new left) where
  one_more : (o : Obj) → is_in (shown_by (take (i + 1) old)) o ≡ (is_in (shown_by (take i old)) o || (same_obj o p.1 || false))
  one_more o = ap (λ l. is_in l o) (map_push {B = Obj} (λ (p : Path × Obj). p.1) old i p below at_i) ∙ any_append (same_obj o) (shown_by (take i old)) (p.1 ∷ [])

  -- a page that left
  pub left_push : LeavesPages (take (i + 1) old) new (left ++ p.1 ∷ [])
  left_push o h out = any_append (same_obj o) left (p.1 ∷ []) ∙ elim (or_cases (is_in (shown_by (take i old)) o) (same_obj o p.1 || false) (sym (one_more o) ∙ h)) [
    | inl early ↦ or_left (is_in left o) (same_obj o p.1 || false) (before o early out)
    | inr late ↦ or_right (is_in left o) (same_obj o p.1 || false) late
  ]

  -- a page that stands in both, with the same object or another
  pub left_both : (j : ℕ) (q : Path × Obj) → j < length new → q ≡ get_or new j q → (more : List Obj) → more ≡ cond (same_obj p.1 q.1) left (left ++ p.1 ∷ []) → LeavesPages (take (i + 1) old) new more
  left_both j q inside at_j more is = by_same (same_obj p.1 q.1) refl
    where
      stays : same_obj p.1 q.1 ≡ true → LeavesPages (take (i + 1) old) new left
      stays one o h out = elim (or_cases (is_in (shown_by (take i old)) o) (same_obj o p.1 || false) (sym (one_more o) ∙ h)) [
        | inl early ↦ before o early out
        | inr late ↦ elim (or_cases (same_obj o p.1) false late) [
          | inr never ↦ absurd (true≢false (sym never))
          | inl this ↦ absurd (true≢false (sym (ap (is_in (shown_by new)) (obj_same o p.1 this ∙ obj_same p.1 q.1 one) ∙ shown_at new j q inside at_j) ∙ out))
        ]
      ]

      by_same : (b : Bool) → same_obj p.1 q.1 ≡ b → LeavesPages (take (i + 1) old) new more
      by_same true one = subst (LeavesPages (take (i + 1) old) new) (sym (is ∙ ap (λ b. cond b left (left ++ p.1 ∷ [])) one)) (stays one)
      by_same false apart = subst (LeavesPages (take (i + 1) old) new) (sym (is ∙ ap (λ b. cond b left (left ++ p.1 ∷ [])) apart)) left_push

pub left_none : (old new : List (Path × Obj)) (left : List Obj) → LeavesPages (take 0 old) new left
left_none old new left o h out = absurd (true≢false (sym h))

-- and all that are left
pub left_rest : (old new : List (Path × Obj)) (left : List Obj) (i : ℕ) → LeavesPages (take i old) new left → LeavesPages old new (left ++ shown_by (drop i old))
left_rest old new left i before o h out =
    any_append (same_obj o) left (shown_by (drop i old))
    ∙ elim (or_cases (is_in (shown_by (take i old)) o) (is_in (shown_by (drop i old)) o)
    (sym (any_append (same_obj o) (shown_by (take i old)) (shown_by (drop i old))) ∙ ap (λ l. is_in l o) (sym (map-append {B = Obj} (λ (p : Path × Obj). p.1) (take i old) (drop i old)) ∙ ap shown_by (take-append-drop i old)) ∙ h)) [
      | inl early ↦ or_left (is_in left o) (is_in (shown_by (drop i old)) o) (before o early out)
      | inr late ↦ or_right (is_in left o) (is_in (shown_by (drop i old)) o) late
    ]

-- what was loose, what dropped nodes embed, and what left are loose
pub loosened : (old_pages : List (Path × Obj)) (old_loose : List Obj) (nodes : List (Obj × Node)) (dropped : List Obj) (pages : List (Path × Obj)) (left loose : List Obj) →
    LeavesPages old_pages pages left → loose ≡ in_order obj_cmp ((old_loose ++ flat_map (λ p. children_of (at nodes p)) dropped) ++ left) → Loosened old_pages old_loose nodes dropped pages loose
loosened old_pages old_loose nodes dropped pages left loose leaves is = record {
  before = λ o h. inside o ∙ or_left (is_in old_loose o || is_in kids o) (is_in left o) (or_left (is_in old_loose o) (is_in kids o) h);
  embedded = λ p o h k. inside o ∙ or_left (is_in old_loose o || is_in kids o) (is_in left o) (or_right (is_in old_loose o) (is_in kids o)
      (in_each (λ p. children_of (at nodes p)) dropped o ∙ member_some (λ p. is_in (children_of (at nodes p)) o) dropped p h k));
  left = λ o h out. inside o ∙ or_right (is_in old_loose o || is_in kids o) (is_in left o) (leaves o h out);
}
  where
    kids : List Obj
    kids = flat_map (λ p. children_of (at nodes p)) dropped

    inside : (o : Obj) → is_in loose o ≡ ((is_in old_loose o || is_in kids o) || is_in left o)
    inside o = ap (λ l. is_in l o) is ∙ in_ordered ((old_loose ++ kids) ++ left) o ∙ any_append (same_obj o) (old_loose ++ kids) left ∙ ap (λ b. b || is_in left o) (any_append (same_obj o) old_loose kids)
