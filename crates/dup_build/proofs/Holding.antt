-- What is held, and what is let go.
use Rattle.std.proofs.Common.{◌≡◌, inl, inr, Bool, true, false, not, cond, ◌||◌, ◌&&◌, List, [], ◌∷◌, ◌++◌, refl, sym, ap, ◌∙◌}
use Rattle.std.specs.List.{list_any}
use Rattle.std.specs.Cmp.{both_ways}
use Rattle.std.proofs.lemmas.Bool.{true≢false, cases_Bool, or_cases, or_left}
use Rattle.dup_names.specs.Order.{obj_cmp}
use Rattle.dup_names.specs.Words.{in_order}
use Rattle.dup_names.specs.declared.object.Obj.{Obj}
use Rattle.dup_names.specs.Objects.{same_obj, is_in}
use Rattle.dup_names.proofs.ObjectOrder.{obj_same, obj_itself}
use Rattle.dup_model.proofs.Earlier.{in_ordered}
use Rattle.dup_model.proofs.Ordering.{any_append}
use Rattle.dup_model.proofs.Reached.{or_right}
use Rattle.dup_model.specs.Touched.{without}
use Rattle.dup_machine.proofs.Closing.{without_parts}
use Rattle.dup_machine.proofs.InOrder.{in_without}
use Rattle.dup_graph.specs.Graph.{Nodes, has_child, parents}
use Rattle.dup_graph.proofs.Readers.{in_where}
use Rattle.dup_sets.specs.Entries.{at, objs}
use Rattle.dup_build.specs.declared.node.Node.{Node}
use Rattle.dup_build.specs.Nodes.{below, children_of}
use Rattle.dup_build.specs.Loose.{is_embedded, is_held, AreGone, HasChildren, HoldsBut, LetGo}

pub or_none : (x y : Bool) → (x || y) ≡ false → (x ≡ false) × (y ≡ false)
or_none true y h = absurd (true≢false h)
or_none false y h = (refl, h)

pub either_none : (x y : Bool) → x ≡ false → y ≡ false → (x || y) ≡ false
either_none x y h k = ap (λ b. b || y) h ∙ k

-- an object that passes a test is one that some object of the list is
pub some_member : (f : Obj → Bool) (os : List Obj) → list_any f os ≡ true → (p : Obj) × (is_in os p ≡ true) × (f p ≡ true)
some_member f [] h = absurd (true≢false (sym h))
some_member f (o ∷ os) h = elim (or_cases (f o) (list_any f os) h) [
  | inl first ↦ (o, or_left (same_obj o o) (is_in os o) (obj_itself o), first)
  | inr later ↦ let rest : (p : Obj) × (is_in os p ≡ true) × (f p ≡ true) = some_member f os later in (rest.0, or_right (same_obj rest.0 o) (is_in os rest.0) rest.1, rest.2)
]

pub member_some : (f : Obj → Bool) (os : List Obj) (p : Obj) → is_in os p ≡ true → f p ≡ true → list_any f os ≡ true
member_some f [] p h is = absurd (true≢false (sym h))
member_some f (o ∷ os) p h is = elim (or_cases (same_obj p o) (is_in os p) h) [
  | inl one ↦ or_left (f o) (list_any f os) (ap f (sym (obj_same p o one)) ∙ is)
  | inr later ↦ or_right (f o) (list_any f os) (member_some f os p later is)
]

pub without_from : (test : Obj → Bool) (os : List Obj) (x : Obj) → is_in os x ≡ true → test x ≡ false → is_in (without test os) x ≡ true
without_from test os x h out = in_without test os x ∙ (λ i. h i && not (out i))

module _ (nodes : List (Obj × Node)) where
  -- what is below a node that isn't gone are its children
  pub below_kept : (gone : List Obj) (p : Obj) → is_in gone p ≡ false → below nodes gone p ≡ children_of (at nodes p)
  below_kept gone p out = ap (λ b. cond b [] (children_of (at nodes p))) out

  below_parts : (gone : List Obj) (p o : Obj) → is_in (below nodes gone p) o ≡ true → (is_in gone p ≡ false) × (is_in (children_of (at nodes p)) o ≡ true)
  below_parts gone p o h = by_gone (is_in gone p) refl
    where
      by_gone : (b : Bool) → is_in gone p ≡ b → (is_in gone p ≡ false) × (is_in (children_of (at nodes p)) o ≡ true)
      by_gone true is = absurd (true≢false (sym h ∙ ap (λ b. is_in (cond b [] (children_of (at nodes p))) o) is))
      by_gone false is = (is, sym (ap (λ l. is_in l o) (below_kept gone p is)) ∙ h)

  -- an object is embedded just where it is a child of a node that isn't gone
  pub embedder : (gone : List Obj) (o : Obj) → is_embedded nodes gone o ≡ true →
      (p : Obj) × (is_in (objs nodes) p ≡ true) × (is_in gone p ≡ false) × (is_in (children_of (at nodes p)) o ≡ true)
  embedder gone o h =
      let some : (p : Obj) × (is_in (objs nodes) p ≡ true) × (is_in (below nodes gone p) o ≡ true) = some_member (λ p. is_in (below nodes gone p) o) (objs nodes) h in
      let parts : (is_in gone some.0 ≡ false) × (is_in (children_of (at nodes some.0)) o ≡ true) = below_parts gone some.0 o some.2 in
      (some.0, some.1, parts.0, parts.1)

  pub embedded_by : (gone : List Obj) (p o : Obj) → is_in (objs nodes) p ≡ true → is_in gone p ≡ false → is_in (children_of (at nodes p)) o ≡ true → is_embedded nodes gone o ≡ true
  embedded_by gone p o h out k = member_some (λ p. is_in (below nodes gone p) o) (objs nodes) p h (ap (λ l. is_in l o) (below_kept gone p out) ∙ k)

  -- where a graph has the children, the parents that aren't gone tell
  pub by_parents : (g : Nodes) (gone : List Obj) (o : Obj) → HasChildren g nodes → list_any (is_in (without (is_in gone) (objs nodes))) (parents g o) ≡ is_embedded nodes gone o
  by_parents g gone o has = both_ways (list_any (is_in (without (is_in gone) (objs nodes))) (parents g o)) (is_embedded nodes gone o)
      (λ h.
      let some : (p : Obj) × (is_in (parents g o) p ≡ true) × (is_in (without (is_in gone) (objs nodes)) p ≡ true) = some_member (is_in (without (is_in gone) (objs nodes))) (parents g o) h in
      let kept : (is_in (objs nodes) some.0 ≡ true) × (is_in gone some.0 ≡ false) = without_parts (is_in gone) (objs nodes) some.0 some.2 in
      embedded_by gone some.0 o kept.0 kept.1 (ap (λ l. is_in l o) (sym (has some.0 kept.0)) ∙ sym (in_where (has_child o) refl g some.0) ∙ some.1))
      (λ h.
      let e : (p : Obj) × (is_in (objs nodes) p ≡ true) × (is_in gone p ≡ false) × (is_in (children_of (at nodes p)) o ≡ true) = embedder gone o h in
      member_some (is_in (without (is_in gone) (objs nodes))) (parents g o) e.0 (in_where (has_child o) refl g e.0 ∙ ap (λ l. is_in l o) (has e.0 e.1) ∙ e.3)
      (without_from (is_in gone) (objs nodes) e.0 e.1 e.2))

  module _ (roots : List Obj) where
    -- the more is gone, the less is held
    pub held_before : (old more : List Obj) → ((x : Obj) → is_in old x ≡ true → is_in more x ≡ true) → (o : Obj) → is_held roots nodes old o ≡ false → is_held roots nodes more o ≡ false
    held_before old more grows o h =
        let none : (is_in roots o ≡ false) × (is_embedded nodes old o ≡ false) = or_none (is_in roots o) (is_embedded nodes old o) h in
        either_none (is_in roots o) (is_embedded nodes more o) none.0 (elim (cases_Bool (is_embedded nodes more o)) [
          | inr isnt ↦ isnt
          | inl is ↦
              let e : (p : Obj) × (is_in (objs nodes) p ≡ true) × (is_in more p ≡ false) × (is_in (children_of (at nodes p)) o ≡ true) = embedder more o is in
              absurd (true≢false (sym (embedded_by old e.0 o e.1 (elim (cases_Bool (is_in old e.0)) [ inr out ↦ out | inl there ↦ absurd (true≢false (sym (grows e.0 there) ∙ e.2)) ]) e.3) ∙ none.1))
        ])

    pub let_none : (old : List Obj) → LetGo roots nodes [] old old
    let_none old = record { sound = λ h. h; held = λ loose h. h }

    pub let_then : (rs ss old mid new : List Obj) → LetGo roots nodes rs old mid → LetGo roots nodes ss mid new → LetGo roots nodes (rs ++ ss) old new
    let_then rs ss old mid new one two = record {
      sound = λ h. two.sound (one.sound h);
      held = λ loose h. two.held loose (one.held (ss ++ loose) (λ o inside free.
          any_append (same_obj o) rs (ss ++ loose) ∙ (λ i. is_in rs o || any_append (same_obj o) ss loose i) ∙ or_assoc_back (is_in rs o) (is_in ss o) (is_in loose o)
          ∙ sym (any_append (same_obj o) (rs ++ ss) loose ∙ (λ i. any_append (same_obj o) rs ss i || is_in loose o)) ∙ h o inside free));
    }
      where
        or_assoc_back : (a b c : Bool) → (a || (b || c)) ≡ ((a || b) || c)
        or_assoc_back true b c = refl
        or_assoc_back false b c = refl

    -- an object that has no node, is gone or is held stays as it is
    pub let_over : (o : Obj) (old : List Obj) → ((is_in (without (is_in old) (objs nodes)) o ≡ true) → is_held roots nodes old o ≡ true) → LetGo roots nodes (o ∷ []) old old
    let_over o old over = record {
      sound = λ h. h;
      held = λ loose h x inside free. elim (or_cases (same_obj x o) (is_in loose x) (h x inside free)) [
        | inr later ↦ later
        | inl one ↦
            let is : x ≡ o = obj_same x o one in
            absurd (true≢false (sym (ap (is_held roots nodes old) is ∙ over (ap (is_in (without (is_in old) (objs nodes))) (sym is) ∙ inside)) ∙ free))
      ];
    }

    pub let_down : (o : Obj) (old new : List Obj) → is_in (without (is_in old) (objs nodes)) o ≡ true → is_held roots nodes old o ≡ false →
        LetGo roots nodes (children_of (at nodes o)) (in_order obj_cmp (o ∷ old)) new → LetGo roots nodes (o ∷ []) old new
    let_down o old new stays free below_it = record {
      sound = λ h. below_it.sound (record {
        kept = λ x k. elim (or_cases (same_obj x o) (is_in old x) (sym (in_ordered (o ∷ old) x) ∙ k)) [
          | inl one ↦ ap (is_in (objs nodes)) (obj_same x o one) ∙ (without_parts (is_in old) (objs nodes) o stays).0
          | inr before ↦ h.kept x before
        ];
        free = λ x k. held_before old (in_order obj_cmp (o ∷ old)) grows x (elim (or_cases (same_obj x o) (is_in old x) (sym (in_ordered (o ∷ old) x) ∙ k)) [
          | inl one ↦ ap (is_held roots nodes old) (obj_same x o one) ∙ free
          | inr before ↦ h.free x before
        ]);
      });
      held = λ loose h. below_it.held loose (λ x inside none.
          let parts : (is_in (objs nodes) x ≡ true) × (is_in (in_order obj_cmp (o ∷ old)) x ≡ false) = without_parts (is_in (in_order obj_cmp (o ∷ old))) (objs nodes) x inside in
          let apart : (same_obj x o ≡ false) × (is_in old x ≡ false) = or_none (same_obj x o) (is_in old x) (sym (in_ordered (o ∷ old) x) ∙ parts.1) in
          let unheld : (is_in roots x ≡ false) × (is_embedded nodes (in_order obj_cmp (o ∷ old)) x ≡ false) = or_none (is_in roots x) (is_embedded nodes (in_order obj_cmp (o ∷ old)) x) none in
          any_append (same_obj x) (children_of (at nodes o)) loose ∙ elim (cases_Bool (is_embedded nodes old x)) [
            | inr never ↦ or_right (is_in (children_of (at nodes o)) x) (is_in loose x) (elim (or_cases (same_obj x o) (is_in loose x)
                (h x (without_from (is_in old) (objs nodes) x parts.0 apart.1) (either_none (is_in roots x) (is_embedded nodes old x) unheld.0 never))) [
                  | inl one ↦ absurd (true≢false (sym one ∙ apart.0))
                  | inr later ↦ later
                ])
            | inl is ↦
                let e : (p : Obj) × (is_in (objs nodes) p ≡ true) × (is_in old p ≡ false) × (is_in (children_of (at nodes p)) x ≡ true) = embedder old x is in
                or_left (is_in (children_of (at nodes o)) x) (is_in loose x) (elim (cases_Bool (same_obj e.0 o)) [
                  | inl one ↦ ap (λ p. is_in (children_of (at nodes p)) x) (sym (obj_same e.0 o one)) ∙ e.3
                  | inr other ↦ absurd (true≢false (sym (embedded_by (in_order obj_cmp (o ∷ old)) e.0 x e.1 (in_ordered (o ∷ old) e.0 ∙ either_none (same_obj e.0 o) (is_in old e.0) other e.2) e.3) ∙ unheld.1))
                ])
          ]);
    }
      where
        grows : (x : Obj) → is_in old x ≡ true → is_in (in_order obj_cmp (o ∷ old)) x ≡ true
        grows x h = in_ordered (o ∷ old) x ∙ or_right (same_obj x o) (is_in old x) h

    -- of the loose objects only those that no node embeds need to be looked at
    pub free_loose : (loose : List Obj) → HoldsBut roots nodes [] loose → HoldsBut roots nodes [] (without (is_embedded nodes []) loose)
    free_loose loose h o inside none = without_from (is_embedded nodes []) loose o (h o inside none) (or_none (is_in roots o) (is_embedded nodes [] o) none).1

pub none_gone : (roots : List Obj) (nodes : List (Obj × Node)) → AreGone roots nodes []
none_gone roots nodes = record { kept = λ o h. absurd (true≢false (sym h)); free = λ o h. absurd (true≢false (sym h)) }
