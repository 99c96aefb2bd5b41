-- A stock that goes on to another content.
use Rattle.std.proofs.Common.{◌≡◌, ◌↔◌, Bool, true, false, not, cond, ◌&&◌, ◌||◌, inl, inr, List, [], Option, Some, None, refl, sym, ap, subst, ◌∙◌}
use Rattle.std.specs.Prelude.{is_some}
use Rattle.std.specs.Cmp.{both_ways}
use Rattle.std.proofs.lemmas.Bool.{true≢false, cases_Bool, or_cases}
use Rattle.std.proofs.lemmas.Option.{none-some}
use Rattle.dup_names.specs.declared.object.Obj.{Obj}
use Rattle.dup_model.specs.Content.{Content}
use Rattle.dup_model.specs.Skeletons.{embeds}
use Rattle.dup_names.specs.Objects.{is_in}
use Rattle.dup_model.specs.Touched.{without, touched, affected}
use Rattle.dup_model.specs.Found.{found, waiting}
use Rattle.dup_model.specs.Found.Found.{of_page}
use Rattle.dup_model.proofs.FoundWords.{found_is_found}
use Rattle.dup_model.specs.Pages.{pages}
use Rattle.dup_model.specs.ChangedItems.{KeysAreKeys}
use Rattle.dup_model.specs.Embeddings.{EmbedsEarlier}
use Rattle.dup_model.specs.Incremental.{IsSameAlone}
use Rattle.dup_model.proofs.Incremental.{untouched_same, unaffected_same}
use Rattle.dup_build.specs.declared.node.Node.{Node}
use Rattle.dup_build.specs.declared.node.Shown.{Shown}
use Rattle.dup_build.specs.declared.survey.Survey.{Survey}
use Rattle.dup_machine.specs.Closed.{IsClosed}
use Rattle.dup_sets.specs.Entries.{at, objs}
use Rattle.dup_machine.specs.FoundGrows.{page_objs}
use Rattle.dup_build.specs.Nodes.{children_of, below, seen, IsNode}
use Rattle.dup_machine.specs.Reached.{Reached, opened}
use Rattle.dup_build.specs.Stock.{IsStock}
use Rattle.dup_build.specs.Stocked.{Stocked}
use Rattle.dup_machine.proofs.Closing.{closed_once_moved, without_parts}
use Rattle.dup_sets.proofs.Entries.{at_in}
use Rattle.dup_machine.proofs.Growing.{found_is_reached, opened_below, reached_unseen}
use Rattle.dup_machine.proofs.InOrder.{IsOrdered, same_ordered, ordered_filter, ordered_found, in_without}
use Rattle.dup_sets.proofs.Sets.{without_same, without_twice}
use Rattle.dup_build.proofs.Walking.{from_starts, past_stops, to_starts, without_stops}
use Rattle.dup_build.proofs.Holding.{embedded_by, embedder, or_none, without_from}
use Rattle.dup_build.specs.Loose.{is_embedded, is_held, shown_by, AreStarts, HadNoLook, HoldsBut, Loosened}
use Rattle.dup_build.proofs.Stocking.{reached_as}

module _ (c : Content) (nodes : List (Obj × Node)) (looks : List (Obj × Shown)) (dropped stale done : List Obj) (earlier : EmbedsEarlier c)
    (same : (o : Obj) → below nodes dropped o ≡ opened c done o) (closed : IsClosed c done (without (is_in stale) (objs looks))) where
  abbrev left_looks : List Obj
  left_looks = without (is_in stale) (objs looks)

  shut : (f g : Obj) → is_in left_looks f ≡ true → is_in (opened c done f) g ≡ true → is_in left_looks g ≡ true
  shut f g h k = closed.embedded f g h (opened_below c done f g k).1

  -- what a walk from the pages' objects reaches past what has a look is what is found and has none
  pub surveyed : (none : List Obj) → none ≡ [] → (starts : List Obj) → AreStarts (page_objs c) looks stale starts → (fresh : List Obj) → IsOrdered fresh →
      ((g : Obj) → (is_in fresh g ≡ true) ↔ Reached (below nodes dropped) (seen looks stale none) starts g) → fresh ≡ without (is_in left_looks) (found c done)
  surveyed none empty starts are fresh ordered each = same_ordered fresh (without (is_in left_looks) (found c done)) ordered (ordered_filter (λ o. not (is_in left_looks o)) (found c done) (ordered_found c done)) (λ g.
      let at : (is_in fresh g ≡ true) ↔ Reached (opened c done) (λ o. is_in left_looks o || false) starts g =
      reached_as (below nodes dropped) (opened c done) same (seen looks stale none) (λ o. is_in left_looks o || false) (λ f. ap (λ l. is_in left_looks f || is_in l f) empty)
      starts starts refl (is_in fresh g ≡ true) g (each g) in
      both_ways (is_in fresh g) (is_in (without (is_in left_looks) (found c done)) g)
      (λ h.
      let way : Reached (opened c done) (λ o. is_in left_looks o || false) (page_objs c) g = from_starts (opened c done) (λ o. is_in left_looks o || false) (page_objs c) starts are.rooted (at.0 h) in
      without_from (is_in left_looks) (found c done) g ((found_is_reached c done g earlier).1 (without_stops (opened c done) (is_in left_looks) (λ _. false) shut (page_objs c) way))
      (sym (or_nothing (is_in left_looks g)) ∙ reached_unseen (opened c done) (λ o. is_in left_looks o || false) (page_objs c) way))
      (λ h.
      let parts : (is_in (found c done) g ≡ true) × (is_in left_looks g ≡ false) = without_parts (is_in left_looks) (found c done) g h in
      at.1 (to_starts (opened c done) (λ o. is_in left_looks o || false) (page_objs c) starts (λ x k out. are.all x k (sym (or_nothing (is_in left_looks x)) ∙ out))
      (past_stops (opened c done) (is_in left_looks) (λ _. false) shut (page_objs c) ((found_is_reached c done g earlier).0 parts.0) parts.1))))
    where
      or_nothing : (b : Bool) → (b || false) ≡ b
      or_nothing true = refl
      or_nothing false = refl

  -- and of that, what isn't done waits
  pub waits_of : without (is_in done) (without (is_in left_looks) (found c done)) ≡ waiting c done
  waits_of = without_twice (is_in done) (is_in left_looks) (found c done) ∙ without_same (λ x. is_in left_looks x || is_in done x) (is_in done) (found c done) (λ x h. by_looked x (is_in left_looks x) refl)
    where
      by_looked : (x : Obj) (b : Bool) → is_in left_looks x ≡ b → (b || is_in done x) ≡ is_in done x
      by_looked x true h = sym (closed.is_done x h)
      by_looked x false h = refl

module _ (a b : Content) (frames : a.frame ≡ b.frame) where
  node_moved : (o : Obj) (n : Node) → touched a b o ≡ false → IsNode a o n → IsNode b o n
  node_moved o n calm is =
      let same : IsSameAlone a b o = untouched_same a b o frames calm in
      record { items = is.items ∙ same.reads; skeleton = is.skeleton ∙ same.skeleton; children = is.children ∙ same.embeds }

  module _ (nodes : List (Obj × Node)) (are : (x : Obj) (n : Node) → at nodes x ≡ Some n → IsNode a x n) (dropped : List Obj)
      (drops : (o : Obj) → is_in (objs nodes) o ≡ true → is_in dropped o ≡ touched a b o) where
    -- the children that are left are what is embedded at the next content
    pub below_moved : (o : Obj) → below nodes dropped o ≡ opened b (without (is_in dropped) (objs nodes)) o
    below_moved o = by_dropped (is_in dropped o) refl ∙ ap (λ d. cond d (embeds b o) []) (sym (in_without (is_in dropped) (objs nodes) o))
      where
        by_node : (m : Option Node) → at nodes o ≡ m → is_in dropped o ≡ false → children_of m ≡ cond (is_some m && true) (embeds b o) []
        by_node None is stays = refl
        by_node (Some n) is stays =
            let calm : touched a b o ≡ false = sym (drops o (at_in nodes o ∙ ap is_some is)) ∙ stays in
            (node_moved o n calm (are o n is)).children

        by_dropped : (d : Bool) → is_in dropped o ≡ d → cond d [] (children_of (at nodes o)) ≡ cond (is_in (objs nodes) o && not (is_in dropped o)) (embeds b o) []
        by_dropped true is = sym (ap (λ d. cond (is_in (objs nodes) o && not d) (embeds b o) []) is ∙ ap (λ d. cond d (embeds b o) []) (and_none (is_in (objs nodes) o)))
          where
            and_none : (d : Bool) → (d && false) ≡ false
            and_none true = refl
            and_none false = refl
        by_dropped false is = by_node (at nodes o) refl is ∙ sym (λ i. cond (at_in nodes o i && not (is i)) (embeds b o) [])

-- a page's object without a look is found without one
pub had_no_look : (c : Content) (nodes : List (Obj × Node)) (looks : List (Obj × Shown)) (o : Survey) → EmbedsEarlier c → IsStock c nodes looks o → HadNoLook (page_objs c) looks o.unjoined
had_no_look c nodes looks o earlier k g h out = ap (λ l. is_in l g) k.unjoined ∙ without_from (is_in (objs looks)) (found c (objs nodes)) g ((found_is_found c (objs nodes) g earlier).1 (of_page h)) out

-- what is left of an entry once some are taken out
pub still : {T : Type 0} (d : Bool) (m : Option T) (n : T) → cond d None m ≡ Some n → (d ≡ false) × (m ≡ Some n)
still true m n is = absurd (none-some n is)
still false m n is = (refl, is)

-- what is required for a move, of the stock's own parts
pub record Left (a b : Content) (nodes : List (Obj × Node)) (looks : List (Obj × Shown)) (dropped stale : List Obj) : Type 0 where
  pub frames : a.frame ≡ b.frame
  pub drops : (x : Obj) → is_in (objs nodes) x ≡ true → is_in dropped x ≡ touched a b x
  pub stales : (x : Obj) → is_in (objs looks) x ≡ true → is_in stale x ≡ affected a b x

pub left_from : (s : Stocked) (a b : Content) (nodes : List (Obj × Node)) (looks : List (Obj × Shown)) (dropped stale : List Obj) →
    (let v : Stocked = record { content = a; done = objs nodes; looked = objs looks } in v) ≡ s → s.content.frame ≡ b.frame →
    ((x : Obj) → is_in s.done x ≡ true → is_in dropped x ≡ touched s.content b x) → ((x : Obj) → is_in s.looked x ≡ true → is_in stale x ≡ affected s.content b x) → Left a b nodes looks dropped stale
left_from s a b nodes looks dropped stale view frames drops stales = record {
  frames = ap (λ (s : Stocked). s.content.frame) view ∙ frames;
  drops = subst (λ (s : Stocked). (x : Obj) → is_in s.done x ≡ true → is_in dropped x ≡ touched s.content b x) (sym view) drops;
  stales = subst (λ (s : Stocked). (x : Obj) → is_in s.looked x ≡ true → is_in stale x ≡ affected s.content b x) (sym view) stales;
}

module _ (a b : Content) (nodes : List (Obj × Node)) (looks : List (Obj × Shown)) (dropped stale : List Obj)
    (drops : (x : Obj) → is_in (objs nodes) x ≡ true → is_in dropped x ≡ touched a b x) (stales : (x : Obj) → is_in (objs looks) x ≡ true → is_in stale x ≡ affected a b x) where
  pub done_moved : without (is_in dropped) (objs nodes) ≡ without (touched a b) (objs nodes)
  done_moved = without_same (is_in dropped) (touched a b) (objs nodes) drops

  pub looked_moved : without (is_in stale) (objs looks) ≡ without (affected a b) (objs looks)
  looked_moved = without_same (is_in stale) (affected a b) (objs looks) stales

  pub closed_moved : a.frame ≡ b.frame → EmbedsEarlier a → IsClosed a (objs nodes) (objs looks) → IsClosed b (without (is_in dropped) (objs nodes)) (without (is_in stale) (objs looks))
  closed_moved frames earlier closed = subst (λ l. IsClosed b l (without (is_in stale) (objs looks))) (sym done_moved)
      (subst (IsClosed b (without (touched a b) (objs nodes))) (sym looked_moved) (closed_once_moved a b (objs nodes) (objs looks) frames earlier closed))

-- each node and look that is left is its object's own at the next content
module _ (a b : Content) (frames : a.frame ≡ b.frame) (earlier : EmbedsEarlier a)
    (nodes : List (Obj × Node)) (looks : List (Obj × Shown)) (o : Survey) (k : IsStock a nodes looks o) (keys : KeysAreKeys b) (dropped stale : List Obj)
    (drops : (x : Obj) → is_in (objs nodes) x ≡ true → is_in dropped x ≡ touched a b x) (stales : (x : Obj) → is_in (objs looks) x ≡ true → is_in stale x ≡ affected a b x) where
  kept_from : (gone os : List Obj) (x : Obj) → is_in (without (is_in gone) os) x ≡ true → is_in os x ≡ true
  kept_from gone os x h = and_first (is_in os x) (not (is_in gone x)) (sym (in_without (is_in gone) os x) ∙ h)
    where
      and_first : (d e : Bool) → (d && e) ≡ true → d ≡ true
      and_first true e h = refl
      and_first false e h = h

  module _ (fewer : List (Obj × Node)) (fewer_looks : List (Obj × Shown)) (o' : Survey)
      (fewer_at : (q : Obj) → at fewer q ≡ cond (is_in dropped q) None (at nodes q)) (fewer_objs : objs fewer ≡ without (is_in dropped) (objs nodes))
      (looks_at : (q : Obj) → at fewer_looks q ≡ cond (is_in stale q) None (at looks q)) (looks_objs : objs fewer_looks ≡ without (is_in stale) (objs looks))
      (pages_are : o'.pages.value ≡ pages b) (loose : Loosened o.pages.value o.loose nodes dropped o'.pages.value o'.loose) (waits : o'.waiting ≡ waiting b (without (is_in dropped) (objs nodes)))
      (unjoined : o'.unjoined ≡ without (is_in (without (is_in stale) (objs looks))) (found b (without (is_in dropped) (objs nodes)))) where
    in_fewer : (q : Obj) → is_in (objs fewer) q ≡ (is_in (objs nodes) q && not (is_in dropped q))
    in_fewer q = ap (λ l. is_in l q) fewer_objs ∙ in_without (is_in dropped) (objs nodes) q

    -- what isn't held any more has come loose
    held_moved : HoldsBut (shown_by o'.pages.value) fewer [] o'.loose
    held_moved x inside free = by_held (is_held (shown_by o.pages.value) nodes [] x) refl
      where
        was : (is_in (objs nodes) x ≡ true) × (is_in dropped x ≡ false)
        was = without_parts (is_in dropped) (objs nodes) x (sym (ap (λ l. is_in l x) fewer_objs) ∙ (without_parts (is_in []) (objs fewer) x inside).0)

        unheld : (is_in (shown_by o'.pages.value) x ≡ false) × (is_embedded fewer [] x ≡ false)
        unheld = or_none (is_in (shown_by o'.pages.value) x) (is_embedded fewer [] x) free

        by_held : (b : Bool) → is_held (shown_by o.pages.value) nodes [] x ≡ b → is_in o'.loose x ≡ true
        by_held false none = loose.before x (k.held x (without_from (is_in []) (objs nodes) x was.0 refl) none)
        by_held true some = elim (or_cases (is_in (shown_by o.pages.value) x) (is_embedded nodes [] x) some) [
          | inl page ↦ loose.left x page unheld.0
          | inr in_one ↦
              let e : (p : Obj) × (is_in (objs nodes) p ≡ true) × (is_in [] p ≡ false) × (is_in (children_of (at nodes p)) x ≡ true) = embedder nodes [] x in_one in
              elim (cases_Bool (is_in dropped e.0)) [
                | inl out ↦ loose.embedded e.0 x out e.3
                | inr stays ↦ absurd (true≢false (sym (embedded_by fewer [] e.0 x (in_fewer e.0 ∙ (λ i. e.1 i && not (stays i))) refl
                    (ap (λ n. is_in (children_of n) x) (fewer_at e.0 ∙ ap (λ d. cond d None (at nodes e.0)) stays) ∙ e.3)) ∙ unheld.1))
              ]
        ]

    pub moved_stock : IsStock b fewer fewer_looks o'
    moved_stock = record {
      nodes_are = λ q n is.
          let was : (is_in dropped q ≡ false) × (at nodes q ≡ Some n) = still (is_in dropped q) (at nodes q) n (sym (fewer_at q) ∙ is) in
          node_moved a b frames q n (sym (drops q (at_in nodes q ∙ ap is_some was.1)) ∙ was.0) (k.nodes_are q n was.1);
      looks_are = λ q s is.
          let was : (is_in stale q ≡ false) × (at looks q ≡ Some s) = still (is_in stale q) (at looks q) s (sym (looks_at q) ∙ is) in
          k.looks_are q s was.1 ∙ unaffected_same a b q frames (sym (stales q (at_in looks q ∙ ap is_some was.1)) ∙ was.0);
      closed = subst (λ l. IsClosed b l (objs fewer_looks)) (sym fewer_objs) (subst (IsClosed b (without (is_in dropped) (objs nodes))) (sym looks_objs)
          (closed_moved a b nodes looks dropped stale drops stales frames earlier k.closed));
      pages = pages_are;
      held = held_moved;
      waits = waits ∙ ap (waiting b) (sym fewer_objs);
      unjoined = unjoined ∙ (λ i. without (is_in (sym looks_objs i)) (found b (sym fewer_objs i)));
      keyed = λ q h. k.keyed q (kept_from dropped (objs nodes) q (ap (λ l. is_in l q) (sym fewer_objs) ∙ h));
      keys = keys;
    }
