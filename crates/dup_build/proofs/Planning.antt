-- The next level stands above the last.
use Rattle.std.proofs.Common.{◌≡◌, Bool, true, false, not, cond, ◌||◌, ◌&&◌, inl, inr, List, [], ◌∷◌, ◌++◌, refl, sym, ap, ◌∙◌}
use Rattle.std.specs.List.{filter, flat_map, list_all, list_any}
use Rattle.std.specs.Option.{unwrap_or}
use Rattle.std.proofs.lemmas.Bool.{true≢false, or_cases, or_left, and_parts, and_from}
use Rattle.std.proofs.lemmas.List.Concat.{flat_map-cons}
use Rattle.dup_names.specs.Order.{obj_cmp}
use Rattle.dup_names.specs.Words.{in_order}
use Rattle.dup_names.specs.declared.object.Obj.{Obj}
use Rattle.dup_names.specs.Objects.{same_obj, is_in}
use Rattle.dup_names.proofs.ObjectOrder.{obj_same, obj_itself}
use Rattle.dup_model.specs.Skeletons.{embeds}
use Rattle.dup_model.specs.Touched.{without}
use Rattle.dup_model.specs.Found.{found}
use Rattle.dup_model.proofs.Objects.{filter_same, in_filter}
use Rattle.dup_model.proofs.Finds.{done_unless_waiting}
use Rattle.dup_model.proofs.Earlier.{in_ordered}
use Rattle.dup_model.proofs.Ordering.{any_append}
use Rattle.dup_model.proofs.Reached.{or_right}
use Rattle.dup_machine.specs.Reached.{opened}
use Rattle.dup_machine.proofs.Closing.{without_parts}
use Rattle.dup_machine.proofs.InOrder.{in_both, in_without, ordered_filter, ordered_found, ordered_in_order, same_ordered}
use Rattle.dup_graph.specs.Graph.{Nodes, has_child, no_node, parents}
use Rattle.dup_graph.proofs.Readers.{in_where}
use Rattle.dup_walk.specs.OverReads.{HasReads}
use Rattle.dup_build.specs.Stocked.{Stocked, waiting_in, unjoined_in, level_in}
use Rattle.dup_build.proofs.Joining.{level_done}

and_none : (b : Bool) → (b && false) ≡ false
and_none true = refl
and_none false = refl

or_second : (a b : Bool) → (a || b) ≡ false → b ≡ false
or_second true b h = absurd (true≢false h)
or_second false b h = h

pub in_each : (f : Obj → List Obj) (os : List Obj) (x : Obj) → is_in (flat_map f os) x ≡ list_any (λ o. is_in (f o) x) os
in_each f [] x = refl
in_each f (o ∷ os) x = ap (λ l. is_in l x) (flat_map-cons f o os) ∙ any_append (same_obj x) (f o) (flat_map f os) ∙ ap (λ b. is_in (f o) x || b) (in_each f os x)

-- one of both lists
any_both : (es ls : List Obj) (g : Obj) → is_in es g ≡ true → is_in ls g ≡ true → list_any (is_in es) ls ≡ true
any_both es [] g h k = absurd (true≢false (sym k))
any_both es (l ∷ ls) g h k = elim (or_cases (same_obj g l) (is_in ls g) k) [
  | inl one ↦ or_left (is_in es l) (list_any (is_in es) ls) (ap (is_in es) (sym (obj_same g l one)) ∙ h)
  | inr later ↦ or_right (is_in es l) (list_any (is_in es) ls) (any_both es ls g h later)
]

all_before : (f g : Obj → Bool) (os : List Obj) → list_all f os ≡ true → ((x : Obj) → is_in os x ≡ true → f x ≡ true → g x ≡ true) → list_all g os ≡ true
all_before f g [] all step = refl
all_before f g (o ∷ os) all step =
    let both : (f o ≡ true) × (list_all f os ≡ true) = and_parts _ _ all in
    and_from (g o) (list_all g os) (step o (or_left (same_obj o o) (is_in os o) (obj_itself o)) both.0) (all_before f g os both.1 (λ x h k. step x (or_right (same_obj x o) (is_in os x) h) k))

-- the level is what stands in it among what has no look
pub level_among : (s : Stocked) → filter (is_in (level_in s)) (unjoined_in s) ≡ level_in s
level_among s = filter_same (is_in (level_in s)) (λ o. list_all (is_in s.looked) (embeds s.content o)) (unjoined_in s)
    (λ o h. in_filter (λ o. list_all (is_in s.looked) (embeds s.content o)) (unjoined_in s) o ∙ ap (λ b. b && list_all (is_in s.looked) (embeds s.content o)) h)

module _ (s : Stocked) (calm : waiting_in s ≡ []) where
  -- how an object is tried
  pub next_tried : (o : Obj) → (is_in (unjoined_in s) o && list_all (is_in s.looked) (opened s.content s.done o)) ≡ is_in (level_in s) o
  next_tried o = by_found (is_in (unjoined_in s) o) refl ∙ sym (in_filter (λ o. list_all (is_in s.looked) (embeds s.content o)) (unjoined_in s) o)
    where
      by_found : (b : Bool) → is_in (unjoined_in s) o ≡ b → (b && list_all (is_in s.looked) (opened s.content s.done o)) ≡ (b && list_all (is_in s.looked) (embeds s.content o))
      by_found false out = refl
      by_found true inside =
          let here : is_in (found s.content s.done) o ≡ true = (without_parts (is_in s.looked) (found s.content s.done) o inside).0 in
          ap (λ b. list_all (is_in s.looked) (cond b (embeds s.content o) [])) (done_unless_waiting s.content s.done calm o here)

  module _ (g : Nodes) (has : HasReads s.content s.done g) (lvl : List Obj) (above : (o : Obj) → is_in (level_in s) o ≡ true → list_any (is_in (embeds s.content o)) lvl ≡ true) where
    -- where each object of the level embeds one of these, it stands among their parents
    pub level_above : filter (is_in (level_in s)) (in_order obj_cmp (flat_map (parents g) lvl)) ≡ level_in s
    level_above = same_ordered (filter (is_in (level_in s)) (in_order obj_cmp (flat_map (parents g) lvl))) (level_in s)
        (ordered_filter (is_in (level_in s)) (in_order obj_cmp (flat_map (parents g) lvl)) (ordered_in_order (flat_map (parents g) lvl)))
        (ordered_filter (λ o. list_all (is_in s.looked) (embeds s.content o)) (unjoined_in s) (ordered_filter (λ o. not (is_in s.looked o)) (found s.content s.done) (ordered_found s.content s.done)))
        (λ o. in_filter (is_in (level_in s)) (in_order obj_cmp (flat_map (parents g) lvl)) o ∙ by_level o (is_in (level_in s) o) refl)
      where
        by_parent : (o : Obj) → is_in s.done o ≡ true → (l : Obj) → is_in (parents g l) o ≡ is_in (embeds s.content o) l
        by_parent o done l = in_where (has_child l) refl g o ∙ ap (λ n. is_in (unwrap_or n no_node).children l) (has o done)

        by_level : (o : Obj) (b : Bool) → is_in (level_in s) o ≡ b → (is_in (in_order obj_cmp (flat_map (parents g) lvl)) o && b) ≡ b
        by_level o false out = and_none (is_in (in_order obj_cmp (flat_map (parents g) lvl)) o)
        by_level o true inside =
            let done : is_in s.done o ≡ true = level_done s calm o inside in
            ap (λ b. b && true) (in_ordered (flat_map (parents g) lvl) o ∙ in_each (parents g) lvl o ∙ (λ i. list_any (λ l. by_parent o done l i) lvl) ∙ above o inside)

-- what is joined after a level embeds one of that level
pub next_above : (s : Stocked) (lvl : List Obj) → lvl ≡ level_in s → (o : Obj) → is_in (level_in (record s { looked = in_order obj_cmp (lvl ++ s.looked) })) o ≡ true →
    list_any (is_in (embeds s.content o)) lvl ≡ true
next_above s lvl is o inside = by_level (list_any (is_in (embeds s.content o)) lvl) refl
  where
    parts : (is_in (without (is_in (in_order obj_cmp (lvl ++ s.looked))) (found s.content s.done)) o ≡ true) × (list_all (is_in (in_order obj_cmp (lvl ++ s.looked))) (embeds s.content o) ≡ true)
    parts = and_parts _ _ (sym (in_filter (λ x. list_all (is_in (in_order obj_cmp (lvl ++ s.looked))) (embeds s.content x)) (without (is_in (in_order obj_cmp (lvl ++ s.looked))) (found s.content s.done)) o) ∙ inside)

    apart : (is_in (found s.content s.done) o ≡ true) × (is_in (in_order obj_cmp (lvl ++ s.looked)) o ≡ false)
    apart = without_parts (is_in (in_order obj_cmp (lvl ++ s.looked))) (found s.content s.done) o parts.0

    unlooked : is_in s.looked o ≡ false
    unlooked = or_second (is_in lvl o) (is_in s.looked o) (sym (in_both lvl s.looked o) ∙ apart.1)

    unjoined : is_in (unjoined_in s) o ≡ true
    unjoined = in_without (is_in s.looked) (found s.content s.done) o ∙ and_from (is_in (found s.content s.done) o) (not (is_in s.looked o)) apart.0 (ap not unlooked)

    ready : list_any (is_in (embeds s.content o)) lvl ≡ false → list_all (is_in s.looked) (embeds s.content o) ≡ true
    ready none = all_before (is_in (in_order obj_cmp (lvl ++ s.looked))) (is_in s.looked) (embeds s.content o) parts.1 (λ x h k. elim (or_cases (is_in lvl x) (is_in s.looked x) (sym (in_both lvl s.looked x) ∙ k)) [
      | inl new ↦ absurd (true≢false (sym (any_both (embeds s.content o) lvl x h new) ∙ none))
      | inr old ↦ old
    ])

    joined : list_any (is_in (embeds s.content o)) lvl ≡ false → is_in (in_order obj_cmp (lvl ++ s.looked)) o ≡ true
    joined none = in_both lvl s.looked o ∙ or_left (is_in lvl o) (is_in s.looked o) (ap (λ l. is_in l o) is
        ∙ in_filter (λ x. list_all (is_in s.looked) (embeds s.content x)) (unjoined_in s) o ∙ and_from (is_in (unjoined_in s) o) (list_all (is_in s.looked) (embeds s.content o)) unjoined (ready none))

    by_level : (b : Bool) → list_any (is_in (embeds s.content o)) lvl ≡ b → b ≡ true
    by_level true some = refl
    by_level false none = absurd (true≢false (sym (joined none) ∙ apart.1))
