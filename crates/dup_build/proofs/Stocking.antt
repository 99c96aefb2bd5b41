-- A stock once one more object is done.
use Rattle.std.proofs.Common.{◌≡◌, ◌↔◌, ℕ, Bool, true, false, not, cond, ◌&&◌, ◌||◌, inl, inr, List, [], ◌∷◌, ◌++◌, map, Option, Some, None, refl, sym, ap, subst, ◌∙◌}
use Rattle.std.specs.Prelude.{is_some}
use Rattle.std.specs.Cmp.{both_ways}
use Rattle.std.specs.List.{flat_map, list_any}
use Rattle.std.proofs.lemmas.Option.{same_Some}
use Rattle.std.proofs.lemmas.Bool.{true≢false, cases_Bool, or_cases, or_left}
use Rattle.dup_names.specs.Order.{obj_cmp}
use Rattle.dup_names.specs.Words.{in_order}
use Rattle.dup_names.specs.declared.object.Obj.{Obj}
use Rattle.dup_names.specs.declared.value.Piece.{Piece}
use Rattle.dup_names.specs.declared.value.Piece.TheVariants as piece
use Rattle.dup_names.specs.declared.value.Skeleton.{Skeleton}
use Rattle.dup_template.specs.Paths.{KeyOk}
use Rattle.dup_model.specs.declared.mark.Mark.{Mark}
use Rattle.dup_model.specs.declared.mark.Mark.TheVariants as mark
use Rattle.dup_model.specs.Content.{Content}
use Rattle.dup_model.specs.Marks.{marks}
use Rattle.dup_model.specs.Skeletons.{reads, embeds, skeleton, hole_of, pieces, before}
use Rattle.dup_names.specs.Objects.{same_obj, is_in}
use Rattle.dup_model.specs.Touched.{without}
use Rattle.dup_model.specs.Found.{Found, found, waiting}
use Rattle.dup_model.specs.Found.Found.{of_page, embedded}
use Rattle.dup_model.proofs.FoundWords.{found_is_found}
use Rattle.dup_model.proofs.Ordering.{any_append}
use Rattle.dup_model.proofs.Reached.{or_right}
use Rattle.dup_model.specs.Expansions.{stale}
use Rattle.dup_model.specs.Embeddings.{EmbedsEarlier}
use Rattle.dup_model.specs.Expansions.{Expansion, IsGoodExpansion}
use Rattle.dup_names.proofs.ObjectOrder.{obj_same}
use Rattle.dup_model.proofs.Earlier.{in_ordered, embeds_earlier}
use Rattle.dup_model.proofs.Expanding.{good_right}
use Rattle.dup_model.proofs.Finds.{waiting_parts}
use Rattle.dup_build.specs.declared.node.Node.{Node}
use Rattle.dup_build.specs.declared.node.Shown.{Shown}
use Rattle.dup_build.specs.declared.survey.Survey.{Survey}
use Rattle.dup_machine.specs.Closed.{IsClosed}
use Rattle.dup_sets.specs.Entries.{at, objs}
use Rattle.dup_build.specs.Nodes.{held, children_of, below, seen, ChildrenEarlier, IsNode}
use Rattle.dup_build.specs.Loose.{is_embedded, is_held, shown_by, HasChildren, HoldsBut}
use Rattle.std.specs.Option.{unwrap_or}
use Rattle.dup_graph.specs.Graph.{Nodes, no_node}
use Rattle.dup_walk.specs.OverReads.{HasReads}
use Rattle.dup_machine.specs.Reached.{Reached, opened}
use Rattle.dup_build.specs.Stock.{IsStock}
use Rattle.dup_build.specs.Stocked.{Stocked, is_met, unjoined_in, waiting_in}
use Rattle.dup_machine.proofs.Closing.{closed_once_done, without_parts}
use Rattle.dup_machine.proofs.Growing.{below_opened, found_grows, opened_below, reached_unseen, waiting_after, unjoined_after}
use Rattle.dup_sets.proofs.Entries.{at_in}
use Rattle.dup_machine.proofs.InOrder.{in_without, same_in}
use Rattle.dup_sets.proofs.Sets.{without_none}
use Rattle.dup_build.proofs.Holding.{either_none, embedded_by, embedder, or_none, without_from}
use Rattle.dup_build.proofs.Walking.{past_stops, without_stops}

-- the holes of a skeleton are what the object embeds

held_before : (w : List ℕ) (ps : List Piece) → flat_map held (before w ps) ≡ flat_map held ps
held_before [] ps = refl
held_before (b ∷ bs) [] = refl
held_before (b ∷ bs) (piece.Plain more ∷ ps) = refl
held_before (b ∷ bs) (piece.Hole o ∷ ps) = refl

held_pieces : (ms : List Mark) → flat_map held (pieces ms) ≡ flat_map hole_of ms
held_pieces [] = refl
held_pieces (mark.Plain w ∷ ms) = held_before w (pieces ms) ∙ held_pieces ms
held_pieces (mark.Hole o ∷ ms) = ap (λ l. o ∷ l) (held_pieces ms)
held_pieces (mark.Read it ∷ ms) = held_pieces ms
held_pieces (mark.Goes q ∷ ms) = held_pieces ms

pub held_embedded : (c : Content) (o : Obj) → in_order obj_cmp (flat_map held (skeleton c o).pieces) ≡ embeds c o
held_embedded c o = ap (in_order obj_cmp) (held_pieces (marks c o))

-- a good expansion that agrees with a content makes a node of it
pub node_made : (c : Content) (e : Expansion) (n : Node) → IsGoodExpansion e → c.frame ≡ e.frame → stale c e.notes ≡ None →
    n.expanded.value ≡ e → n.children ≡ in_order obj_cmp (flat_map held e.skeleton.pieces) → IsNode c e.obj n
node_made c e n good of agrees is kids =
    let right : (map (λ note. note.0) e.notes ≡ reads c e.obj) × (e.skeleton ≡ skeleton c e.obj) = good_right e c good of agrees in
    record {
      items = ap (λ (x : Expansion). map (λ note. note.0) x.notes) is ∙ right.0;
      skeleton = ap (λ (x : Expansion). x.skeleton) is ∙ right.1;
      children = kids ∙ ap (λ (s : Skeleton). in_order obj_cmp (flat_map held s.pieces)) right.1 ∙ held_embedded c e.obj;
    }

pub reached_as : (b d : Obj → List Obj) → ((f : Obj) → b f ≡ d f) → (s t : Obj → Bool) → ((f : Obj) → s f ≡ t f) → (r q : List Obj) → r ≡ q → (P : Type 0) (g : Obj) → P ↔ Reached b s r g → P ↔ Reached d t q g
reached_as b d same s t seen r q roots P g h =
    subst (λ (x : Obj → List Obj). P ↔ Reached x t q g) (λ i f. same f i)
    (subst (λ (x : Obj → Bool). P ↔ Reached b x q g) (λ i f. seen f i)
    (subst (λ (x : List Obj). P ↔ Reached b s x g) roots h))

module _ (c : Content) (nodes : List (Obj × Node)) (are : (x : Obj) (n : Node) → at nodes x ≡ Some n → IsNode c x n) where
  pub children_opened : (f : Obj) → children_of (at nodes f) ≡ opened c (objs nodes) f
  children_opened f = by_node (at nodes f) refl ∙ ap (λ b. cond b (embeds c f) []) (sym (at_in nodes f))
    where
      by_node : (n : Option Node) → at nodes f ≡ n → children_of n ≡ cond (is_some n) (embeds c f) []
      by_node None is = refl
      by_node (Some n) is = (are f n is).children

  pub children_earlier : EmbedsEarlier c → ChildrenEarlier nodes
  children_earlier earlier o g h =
      embeds_earlier c earlier o g (opened_below c (objs nodes) o g (ap (λ l. is_in l g) (sym (children_opened o)) ∙ h)).1

  -- a graph that has what is read and embedded has the children
  pub has_children : (g : Nodes) → HasReads c (objs nodes) g → HasChildren g nodes
  has_children g has p h = ap (λ m. (unwrap_or m no_node).children) (has p h) ∙ sym (children_opened p ∙ ap (λ b. cond b (embeds c p) []) h)

-- what a walk reaches over the nodes is what is reached over the content
pub reached_over : (c : Content) (nodes : List (Obj × Node)) (looks : List (Obj × Shown)) (o : Survey) → IsStock c nodes looks o → (none : List Obj) → none ≡ [] → (roots : List Obj) (P : Type 0) (g : Obj) →
    P ↔ Reached (below nodes none) (seen looks none o.unjoined) roots g → P ↔ Reached (opened c (objs nodes)) (is_met (record { content = c; done = objs nodes; looked = objs looks })) roots g
reached_over c nodes looks o k none is roots P g h =
    let s : Stocked = record { content = c; done = objs nodes; looked = objs looks } in
    reached_as (below nodes none) (opened c (objs nodes)) (λ f. ap (λ l. below nodes l f) is ∙ children_opened c nodes k.nodes_are f) (seen looks none o.unjoined) (is_met s)
    (λ f. (λ i. is_in (without (is_in (is i)) (objs looks)) f || is_in (k.unjoined i) f) ∙ ap (λ l. is_in l f || is_in (unjoined_in s) f) (without_none (objs looks))) roots roots refl P g h

-- what is held depends on the pages and on what is loose alone
pub same_held : (nodes : List (Obj × Node)) (o o' : Survey) → o'.pages.value ≡ o.pages.value → o'.loose ≡ o.loose → HoldsBut (shown_by o.pages.value) nodes [] o.loose → HoldsBut (shown_by o'.pages.value) nodes [] o'.loose
same_held nodes o o' pages loose h = subst (HoldsBut (shown_by o'.pages.value) nodes []) (sym loose) (subst (λ ps. HoldsBut (shown_by ps) nodes [] o.loose) (sym pages) h)

module _ (c : Content) (nodes : List (Obj × Node)) (looks : List (Obj × Shown)) (o : Survey) (k : IsStock c nodes looks o) (earlier : EmbedsEarlier c)
    (x : Obj) (n : Node) (is_node : IsNode c x n) (waits : is_in o.waiting x ≡ true) (fresh : List Obj)
    (each : (g : Obj) → (is_in fresh g ≡ true) ↔ Reached (opened c (objs nodes)) (is_met (record { content = c; done = objs nodes; looked = objs looks })) n.children g) where
  abbrev here : Stocked
  here = record { content = c; done = objs nodes; looked = objs looks }

  abbrev there : List Obj
  there = found c (objs nodes)

  abbrev later : List Obj
  later = found c (in_order obj_cmp (x ∷ objs nodes))

  is_waiting : is_in (waiting c (objs nodes)) x ≡ true
  is_waiting = ap (λ l. is_in l x) (sym k.waits) ∙ waits

  pub is_found : is_in there x ≡ true
  is_found = (waiting_parts c (objs nodes) x is_waiting).0

  pub isnt_done : is_in (objs nodes) x ≡ false
  isnt_done = (waiting_parts c (objs nodes) x is_waiting).1

  shut : (f g : Obj) → is_in (objs looks) f ≡ true → is_in (opened c (objs nodes) f) g ≡ true → is_in (objs looks) g ≡ true
  shut f g h below_it = k.closed.embedded f g h (opened_below c (objs nodes) f g below_it).1

  -- what has a look or is found without one has a look or is found
  met_either : (f : Obj) → is_met here f ≡ (is_in (objs looks) f || is_in there f)
  met_either f = ap (λ b. is_in (objs looks) f || b) (in_without (is_in (objs looks)) there f) ∙ by_cases (is_in (objs looks) f) (is_in there f)
    where
      by_cases : (l t : Bool) → (l || (t && not l)) ≡ (l || t)
      by_cases true t = refl
      by_cases false true = refl
      by_cases false false = refl

  -- what the walk put in is what is newly found and has no look
  fresh_new : (g : Obj) → is_in fresh g ≡ true → Reached (opened c (objs nodes)) (is_in there) (embeds c x) g × (is_in (objs looks) g ≡ false)
  fresh_new g h =
      let way : Reached (opened c (objs nodes)) (λ f. is_in (objs looks) f || is_in there f) (embeds c x) g =
      (reached_as (opened c (objs nodes)) (opened c (objs nodes)) (λ f. refl) (is_met here) (λ f. is_in (objs looks) f || is_in there f) met_either n.children (embeds c x) is_node.children (is_in fresh g ≡ true) g (each g)).0 h in (
        without_stops (opened c (objs nodes)) (is_in (objs looks)) (is_in there) shut (embeds c x) way,
        (or_none (is_in (objs looks) g) (is_in there g) (reached_unseen (opened c (objs nodes)) (λ f. is_in (objs looks) f || is_in there f) (embeds c x) way)).0,
      )

  new_fresh : (g : Obj) → Reached (opened c (objs nodes)) (is_in there) (embeds c x) g → is_in (objs looks) g ≡ false → is_in fresh g ≡ true
  new_fresh g way out =
      (reached_as (opened c (objs nodes)) (opened c (objs nodes)) (λ f. refl) (is_met here) (λ f. is_in (objs looks) f || is_in there f) met_either n.children (embeds c x) is_node.children (is_in fresh g ≡ true) g (each g)).1
      (past_stops (opened c (objs nodes)) (is_in (objs looks)) (is_in there) shut (embeds c x) way out)

  -- what is newly found
  abbrev more_found : List Obj
  more_found = without (is_in there) later

  each_new : (g : Obj) → (is_in more_found g ≡ true) ↔ Reached (opened c (objs nodes)) (is_in there) (embeds c x) g
  each_new g = (
    λ h. let parts : (is_in later g ≡ true) × (is_in there g ≡ false) = without_parts (is_in there) later g h in
        elim ((found_grows c (objs nodes) x g earlier is_found).0 parts.0) [
          | inl old ↦ absurd (true≢false (sym old ∙ parts.1))
          | inr new ↦ new
        ],
    λ way. without_from (is_in there) later g ((found_grows c (objs nodes) x g earlier is_found).1 (inr way)) (reached_unseen (opened c (objs nodes)) (is_in there) (embeds c x) way),
  )

  fresh_is : (g : Obj) → is_in fresh g ≡ is_in (without (is_in (objs looks)) more_found) g
  fresh_is g = both_ways (is_in fresh g) (is_in (without (is_in (objs looks)) more_found) g)
      (λ h. without_from (is_in (objs looks)) more_found g ((each_new g).1 (fresh_new g h).0) (fresh_new g h).1)
      (λ h. let parts : (is_in more_found g ≡ true) × (is_in (objs looks) g ≡ false) = without_parts (is_in (objs looks)) more_found g h in new_fresh g ((each_new g).0 parts.0) parts.1)

  -- what is put in isn't there
  pub unjoined_apart : (g : Obj) → is_in fresh g ≡ true → is_in o.unjoined g ≡ false
  unjoined_apart g h = ap (λ l. is_in l g) k.unjoined ∙ in_without (is_in (objs looks)) there g
      ∙ ap (λ b. b && not (is_in (objs looks) g)) (reached_unseen (opened c (objs nodes)) (is_in there) (embeds c x) (fresh_new g h).0)

  pub waiting_apart : (g : Obj) → is_in (without (is_in (objs nodes)) fresh) g ≡ true → is_in o.waiting g ≡ false
  waiting_apart g h = ap (λ l. is_in l g) k.waits ∙ in_without (is_in (objs nodes)) there g
      ∙ ap (λ b. b && not (is_in (objs nodes) g)) (reached_unseen (opened c (objs nodes)) (is_in there) (embeds c x) (fresh_new g (without_parts (is_in (objs nodes)) fresh g h).0).0)

  unjoined_now : in_order obj_cmp (fresh ++ without (is_in (objs looks)) there) ≡ without (is_in (objs looks)) later
  unjoined_now = same_in (fresh ++ without (is_in (objs looks)) there) (without (is_in (objs looks)) more_found ++ without (is_in (objs looks)) there)
      (λ g. any_append (same_obj g) fresh (without (is_in (objs looks)) there) ∙ ap (λ b. b || is_in (without (is_in (objs looks)) there) g) (fresh_is g)
      ∙ sym (any_append (same_obj g) (without (is_in (objs looks)) more_found) (without (is_in (objs looks)) there)))
      ∙ unjoined_after c (objs nodes) (objs looks) x earlier is_found more_found each_new

  waiting_now : without (same_obj x) (in_order obj_cmp (without (is_in (objs nodes)) fresh ++ waiting c (objs nodes))) ≡ waiting c (in_order obj_cmp (x ∷ objs nodes))
  waiting_now = ap (without (same_obj x)) (same_in (without (is_in (objs nodes)) fresh ++ waiting c (objs nodes)) (without (is_in (objs nodes)) more_found ++ waiting c (objs nodes))
      (λ g. any_append (same_obj g) (without (is_in (objs nodes)) fresh) (waiting c (objs nodes))
      ∙ ap (λ b. b || is_in (waiting c (objs nodes)) g) (in_without (is_in (objs nodes)) fresh g
      ∙ ap (λ b. b && not (is_in (objs nodes) g)) (fresh_is g ∙ in_without (is_in (objs looks)) more_found g) ∙ by_looked g (is_in (objs looks) g) refl ∙ sym (in_without (is_in (objs nodes)) more_found g))
      ∙ sym (any_append (same_obj g) (without (is_in (objs nodes)) more_found) (waiting c (objs nodes)))))
      ∙ waiting_after c (objs nodes) (objs looks) x earlier is_found more_found each_new
    where
      by_looked : (g : Obj) (l : Bool) → is_in (objs looks) g ≡ l → ((is_in more_found g && not l) && not (is_in (objs nodes) g)) ≡ (is_in more_found g && not (is_in (objs nodes) g))
      by_looked g true h = by_done (is_in more_found g) (is_in (objs nodes) g) (k.closed.is_done g h)
        where
          by_done : (m d : Bool) → d ≡ true → ((m && false) && not d) ≡ (m && not d)
          by_done true true is = refl
          by_done true false is = absurd (true≢false (sym is))
          by_done false d is = refl
      by_looked g false h = by_more (is_in more_found g) (is_in (objs nodes) g)
        where
          by_more : (m d : Bool) → ((m && true) && not d) ≡ (m && not d)
          by_more true d = refl
          by_more false d = refl

  module _ (keyed : KeyOk x.key) (more : List (Obj × Node)) (o' : Survey)
      (more_at : (q : Obj) → at more q ≡ cond (same_obj q x) (Some n) (at nodes q)) (more_objs : objs more ≡ in_order obj_cmp (x ∷ objs nodes))
      (more_pages : o'.pages.value ≡ o.pages.value) (more_loose : o'.loose ≡ o.loose)
      (more_waiting : o'.waiting ≡ without (same_obj x) (in_order obj_cmp (without (is_in (objs nodes)) fresh ++ o.waiting)))
      (more_unjoined : o'.unjoined ≡ in_order obj_cmp (fresh ++ o.unjoined)) where
    in_more : (q : Obj) → is_in (objs nodes) q ≡ true → is_in (objs more) q ≡ true
    in_more q h = ap (λ l. is_in l q) more_objs ∙ in_ordered (x ∷ objs nodes) q ∙ or_right (same_obj q x) (is_in (objs nodes) q) h

    still_at : (q : Obj) → is_in (objs nodes) q ≡ true → at more q ≡ at nodes q
    still_at q h = more_at q ∙ by_object (same_obj q x) refl
      where
        by_object : (b : Bool) → same_obj q x ≡ b → cond b (Some n) (at nodes q) ≡ at nodes q
        by_object true one = absurd (true≢false (sym h ∙ ap (is_in (objs nodes)) (obj_same q x one) ∙ isnt_done))
        by_object false apart = refl

    still_embedded : (p q : Obj) → is_in (objs nodes) p ≡ true → is_in (children_of (at nodes p)) q ≡ true → is_embedded more [] q ≡ true
    still_embedded p q h below_it = embedded_by more [] p q (in_more p h) refl (ap (λ m. is_in (children_of m) q) (still_at p h) ∙ below_it)

    -- the object itself is a page's, or embedded by one that is done
    itself_held : {q : Obj} → Found c (objs nodes) q → is_held (shown_by o.pages.value) more [] q ≡ true
    itself_held (of_page {o = q} h) = or_left (is_in (shown_by o.pages.value) q) (is_embedded more [] q) (ap (λ ps. is_in (shown_by ps) q) k.pages ∙ h)
    itself_held (embedded {f} way is_done q h) = or_right (is_in (shown_by o.pages.value) q) (is_embedded more [] q)
        (still_embedded f q is_done (ap (λ l. is_in l q) (children_opened c nodes k.nodes_are f) ∙ below_opened c (objs nodes) f q is_done h))

    held_now : HoldsBut (shown_by o.pages.value) more [] o.loose
    held_now q inside free =
        elim (or_cases (same_obj q x) (is_in (objs nodes) q) (sym (in_ordered (x ∷ objs nodes) q) ∙ ap (λ l. is_in l q) (sym more_objs) ∙ (without_parts (is_in []) (objs more) q inside).0)) [
          | inl one ↦ absurd (true≢false (sym (itself_held ((found_is_found c (objs nodes) q earlier).0 (ap (is_in there) (obj_same q x one) ∙ is_found))) ∙ free))
          | inr old ↦
              let none : (is_in (shown_by o.pages.value) q ≡ false) × (is_embedded more [] q ≡ false) = or_none (is_in (shown_by o.pages.value) q) (is_embedded more [] q) free in
              k.held q (without_from (is_in []) (objs nodes) q old refl) (either_none (is_in (shown_by o.pages.value) q) (is_embedded nodes [] q) none.0 (elim (cases_Bool (is_embedded nodes [] q)) [
                | inr isnt ↦ isnt
                | inl is ↦
                    let e : (p : Obj) × (is_in (objs nodes) p ≡ true) × (is_in [] p ≡ false) × (is_in (children_of (at nodes p)) q ≡ true) = embedder nodes [] q is in
                    absurd (true≢false (sym (still_embedded e.0 q e.1 e.3) ∙ none.1))
              ]))
        ]

    pub kept : IsStock c more looks o'
    kept = record {
      nodes_are = λ q m is. by_object q m (same_obj q x) refl (sym (more_at q) ∙ is);
      looks_are = k.looks_are;
      closed = subst (λ l. IsClosed c l (objs looks)) (sym more_objs) (closed_once_done c (objs nodes) (objs looks) x k.closed);
      pages = more_pages ∙ k.pages;
      held = same_held more o o' more_pages more_loose held_now;
      waits = more_waiting ∙ ap (λ l. without (same_obj x) (in_order obj_cmp (without (is_in (objs nodes)) fresh ++ l))) k.waits ∙ waiting_now ∙ ap (waiting c) (sym more_objs);
      unjoined = more_unjoined ∙ ap (λ l. in_order obj_cmp (fresh ++ l)) k.unjoined ∙ unjoined_now ∙ ap (λ l. without (is_in (objs looks)) (found c l)) (sym more_objs);
      keyed = λ q h. elim (or_cases (same_obj q x) (is_in (objs nodes) q) (sym (in_ordered (x ∷ objs nodes) q) ∙ ap (λ l. is_in l q) (sym more_objs) ∙ h)) [
        | inl one ↦ subst (λ y. KeyOk y.key) (sym (obj_same q x one)) keyed
        | inr old ↦ k.keyed q old
      ];
      keys = k.keys;
    }
      where
        by_object : (q : Obj) (m : Node) (b : Bool) → same_obj q x ≡ b → cond b (Some n) (at nodes q) ≡ Some m → IsNode c q m
        by_object q m true one is = subst (λ y. IsNode c y m) (sym (obj_same q x one)) (subst (IsNode c x) (same_Some n m is) is_node)
        by_object q m false apart is = k.nodes_are q m is

-- a stock whose nodes are read the same
pub same_stock : (c : Content) (nodes more : List (Obj × Node)) (looks : List (Obj × Shown)) (o : Survey) → ((q : Obj) → at more q ≡ at nodes q) → objs more ≡ objs nodes → IsStock c nodes looks o → IsStock c more looks o
same_stock c nodes more looks o same_at same_objs k = record {
  nodes_are = λ q m is. k.nodes_are q m (sym (same_at q) ∙ is);
  looks_are = k.looks_are;
  closed = subst (λ l. IsClosed c l (objs looks)) (sym same_objs) k.closed;
  pages = k.pages;
  held = λ q inside free. k.held q (ap (λ l. is_in (without (is_in []) l) q) (sym same_objs) ∙ inside) (same_held_at q ∙ free);
  waits = k.waits ∙ ap (waiting c) (sym same_objs);
  unjoined = k.unjoined ∙ ap (λ l. without (is_in (objs looks)) (found c l)) (sym same_objs);
  keyed = λ q h. k.keyed q (ap (λ l. is_in l q) (sym same_objs) ∙ h);
  keys = k.keys;
}
  where
    same_held_at : (q : Obj) → is_held (shown_by o.pages.value) nodes [] q ≡ is_held (shown_by o.pages.value) more [] q
    same_held_at q = ap (λ b. is_in (shown_by o.pages.value) q || b) ((λ i. list_any (λ p. is_in (children_of (sym (same_at p) i)) q) (objs nodes)) ∙ ap (list_any (λ p. is_in (children_of (at more p)) q)) (sym same_objs))

-- a node that was put in is taken out again
pub at_back : (nodes more less : List (Obj × Node)) (x : Obj) (n : Node) → is_in (objs nodes) x ≡ false →
    ((q : Obj) → at more q ≡ cond (same_obj q x) (Some n) (at nodes q)) → ((q : Obj) → at less q ≡ cond (same_obj q x) None (at more q)) → (q : Obj) → at less q ≡ at nodes q
at_back nodes more less x n out put taken q = taken q ∙ by_object (same_obj q x) refl
  where
    absent : (o : Option Node) → is_some o ≡ false → None ≡ o
    absent None h = refl
    absent (Some m) h = absurd (true≢false h)

    by_object : (b : Bool) → same_obj q x ≡ b → cond b None (at more q) ≡ at nodes q
    by_object true one = absent (at nodes q) (sym (at_in nodes q) ∙ ap (is_in (objs nodes)) (obj_same q x one) ∙ out)
    by_object false apart = put q ∙ ap (λ b. cond b (Some n) (at nodes q)) apart

-- what `put_in` is given, of the parts of the stock
pub record Given (c : Content) (nodes : List (Obj × Node)) (looks : List (Obj × Shown)) (o : Survey) (x : Obj) (n : Node) (fresh : List Obj) : Type 0 where
  pub stock : IsStock c nodes looks o
  pub earlier : EmbedsEarlier c
  pub node : IsNode c x n
  pub waits : is_in o.waiting x ≡ true
  pub each : (g : Obj) → (is_in fresh g ≡ true) ↔ Reached (opened c (objs nodes)) (is_met (record { content = c; done = objs nodes; looked = objs looks })) n.children g

pub given_from : (s : Stocked) (c : Content) (nodes : List (Obj × Node)) (looks : List (Obj × Shown)) (o : Survey) (x : Obj) (n : Node) (fresh : List Obj) →
    (let v : Stocked = record { content = c; done = objs nodes; looked = objs looks } in v) ≡ s → IsStock c nodes looks o → EmbedsEarlier c → IsNode s.content x n → is_in (waiting_in s) x ≡ true →
    ((g : Obj) → (is_in fresh g ≡ true) ↔ Reached (opened s.content s.done) (is_met s) n.children g) → Given c nodes looks o x n fresh
given_from s c nodes looks o x n fresh view k earlier node waits each = record {
  stock = k;
  earlier = earlier;
  node = subst (λ (s : Stocked). IsNode s.content x n) (sym view) node;
  waits = ap (λ l. is_in l x) k.waits ∙ subst (λ (s : Stocked). is_in (waiting_in s) x ≡ true) (sym view) waits;
  each = subst (λ (s : Stocked). (g : Obj) → (is_in fresh g ≡ true) ↔ Reached (opened s.content s.done) (is_met s) n.children g) (sym view) each;
}
