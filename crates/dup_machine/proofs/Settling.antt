-- What `settle` reports.
use Rattle.std.proofs.Common.{◌≡◌, ℕ, zero, suc, ◌+◌, ◌<◌, ◌≤◌, inl, inr, Bool, true, false, not, cond, ◌||◌, ◌&&◌, List, [], ◌∷◌, ◌++◌, length, take, refl, sym, ap, subst, ◌∙◌, arith}
use Rattle.std.specs.Prelude.{Option, Some, None, min, ◌==◌, ◌-◌, ◌^◌}
use Rattle.std.specs.Option.{option_map}
use Rattle.std.specs.List.{list_all, fold, filter}
use Rattle.std.specs.Ordering.{nat_cmp, eq_by_cmp}
use Rattle.std.specs.Cmp.{nat_cmp_total}
use Rattle.std.specs.FinMap as fin
use Rattle.std.proofs.lemmas.Bool.{ne_eqb, true≢false, cases_Bool, or_cases, or_left, and_parts, and_from, not-true}
use Rattle.std.proofs.lemmas.Bool.Decides.{Decides-eqb}
use Rattle.std.proofs.lemmas.List.Sums.{fold-append}
use Rattle.std.proofs.Math.Seq.{take-length}
use Rattle.dup_names.specs.Order.{obj_cmp}
use Rattle.dup_names.specs.declared.object.Obj.{Obj}
use Rattle.dup_template.specs.declared.site.Parts.{Parts}
use Rattle.dup_names.specs.Words.{in_order}
use Rattle.dup_model.specs.Content.{Content}
use Rattle.dup_model.specs.Versions.{content, version, target_content}
use Rattle.dup_model.specs.Journal.{Limits}
use Rattle.dup_model.specs.Pages.{live}
use Rattle.dup_names.specs.Objects.{same_obj, is_in}
use Rattle.dup_model.specs.Touched.{without, touched, affected, renewed, expanded, joined}
use Rattle.dup_machine.specs.World.{World, Work, Slot, Event, Told, told}
use Rattle.dup_machine.specs.World.Event.{Begin, Hand, Put, Join, Finish}
use Rattle.dup_machine.specs.World.Joined.{Done, Level}
use Rattle.dup_machine.specs.World.Told.{Unasked, Finished, Begins, Handed, Joins, NoneWaits, SlotEmpty}
use Rattle.dup_machine.specs.World.Begun.{Nothing, Same}
use Rattle.dup_machine.specs.World.Ended.{Report}
use Rattle.dup_model.specs.Found.{found, waiting}
use Rattle.dup_model.specs.Expansions.{notes, stale}
use Rattle.dup_machine.specs.Works.{unjoined, level, first_work, work_from, moved, next_of, more, with_done, with_joined}
use Rattle.dup_machine.proofs.WorldSteps.{begun_next, begun_open, put_asked}
use Rattle.dup_machine.specs.Press.{joined as join_step}
use Rattle.dup_machine.specs.Press.{at, opened, begun, handed_to, handed, kept, put_from, joined_by, finished_by, finished}
use Rattle.dup_machine.specs.Run.{step}
use Rattle.dup_model.specs.Embeddings.{EmbedsEarlier}
use Rattle.dup_machine.specs.Until.{FirstTold, LastTold}
use Rattle.dup_machine.specs.Settle.{IsWorked, handing, hands, joining, joins, settling, counts_of, begun_work, IsSettled, SettleReports, SettleResumes}
use Rattle.dup_model.proofs.Reached.{or_right}
use Rattle.dup_names.proofs.ObjectOrder.{obj_itself}
use Rattle.dup_model.proofs.Earlier.{in_ordered}
use Rattle.dup_model.proofs.Ordering.{any_append}
use Rattle.dup_model.proofs.Objects.{once_filter, in_filter, filter_same, one_less, some_less}
use Rattle.dup_model.specs.Skeletons.{embeds}
use Rattle.dup_model.proofs.Finds.{once_found, once_live, found_live, found_is_live, done_unless_waiting, waiting_parts, notes_hold}
use Rattle.dup_machine.proofs.LastReply.{told_once}
use Rattle.dup_machine.proofs.Least.{least}
use Rattle.dup_machine.proofs.Levels.{next_in, some_level}

-- no object is among these
abbrev no_object : List Obj → Bool
no_object [] = true
no_object (o ∷ os) = false

no_object_is : (os : List Obj) → no_object os ≡ true → os ≡ []
no_object_is [] h = refl
no_object_is (o ∷ os) h = absurd (true≢false (sym h))

slot_itself : eq_by_cmp nat_cmp 0 0 ≡ true
slot_itself = refl

-- a work is open at the last version, and the slot is empty
pub record Stands (w0 w : World) (work : Work) : Type 0 where
  pub commits : w.commits ≡ w0.commits
  pub target : w.target ≡ w0.target
  pub log : w.log ≡ w0.log
  pub nodes : w.nodes ≡ w0.nodes
  pub has : w.work ≡ Some work
  pub slot : fin.get w.slots 0 ≡ None
  pub here : work.version ≡ length w0.commits

module _ (site : Parts) (limits : Limits) (w0 : World) where
  abbrev pub last : Content
  last = content site w0.commits

  abbrev pub Steps : World → List Event → World
  Steps w events = fold (step site limits) w events

  module _ (w : World) (work : Work) (s : Stands w0 w work) where
    pub at_last : at site w work.version ≡ last
    at_last = (λ i. content site (take (s.here i) (s.commits i))) ∙ ap (content site) (take-length w0.commits)

    module _ (o : Obj) (next : next_of work.last_handed (waiting last work.done) ≡ Some o) (waits : is_in (waiting last work.done) o ≡ true) where
      abbrev taken : Work
      taken = record work { last_handed = Some o }

      abbrev held : Slot
      held = record { obj = o; version = work.version }

      abbrev in_hand : World
      in_hand = handed_to site 0 work (Some o) w

      abbrev emptied : World
      emptied = record in_hand { slots = fin.remove in_hand.slots 0 }

      abbrev brought : World
      brought = kept (at site w work.version) o taken None emptied

      hand_step : step site limits w (Hand 0) ≡ in_hand
      hand_step =
          (λ i. handed site 0 (s.has i) (s.slot i) w)
          ∙ ap (λ x. handed_to site 0 work x w) (ap (λ c. next_of work.last_handed (waiting c work.done)) at_last ∙ next)

      slot_held : fin.get in_hand.slots 0 ≡ Some held
      slot_held = fin.get-insert nat_cmp_total w.slots 0 held 0

      put_step : step site limits in_hand (Put 0) ≡ brought
      put_step =
          ap (λ x. put_from site 0 x in_hand) slot_held
          ∙ put_asked site o (notes (at site w work.version) o) taken emptied
          ∙ (λ i. cond (asked i) (kept (at site w work.version) o taken (stale_is i) emptied) (told (Unasked o) emptied))
        where
          asked : is_in (waiting (at site w work.version) work.done) o ≡ true
          asked = ap (λ c. is_in (waiting c work.done) o) at_last ∙ waits

          stale_is : stale (at site w work.version) (notes (at site w work.version) o) ≡ None
          stale_is = notes_hold (at site w work.version) o

      stands_after : Stands w0 brought (with_done o taken)
      stands_after = record {
        commits = s.commits;
        target = s.target;
        log = s.log;
        nodes = s.nodes;
        has = refl;
        here = s.here;
        slot = fin.get-remove nat_cmp_total in_hand.slots 0 0;
      }

      hand_put : Stands w0 (step site limits (step site limits w (Hand 0)) (Put 0)) (with_done o taken)
      hand_put = subst (λ v. Stands w0 v (with_done o taken)) (sym (ap (λ v. step site limits v (Put 0)) hand_step ∙ put_step)) stands_after

-- counts

min_more : (a n m : ℕ) → min (min a m + n) m ≡ min (a + n) m
min_more a n m = omega arith

plus_zero : (n : ℕ) → 0 + n ≡ n
plus_zero n = omega arith

more_more : (j n : ℕ) → more (more 0 j) n ≡ more 0 (j + n)
more_more j n = omega arith

none_left : (s : Obj → Bool) (os : List Obj) → ((x : Obj) → is_in os x ≡ true → s x ≡ true) → length (without s os) ≡ 0
none_left s [] all = refl
none_left s (o ∷ os) all =
    ap (λ b. length (cond (not b) (o ∷ without s os) (without s os))) (all o (or_left _ _ (obj_itself o))) ∙ none_left s os (λ x inside. all x (or_right _ _ inside))

pub has_one : (os : List Obj) (x : Obj) → is_in os x ≡ true → 1 ≤ length os
has_one [] x inside = absurd (true≢false (sym inside))
has_one (o ∷ os) x inside = omega arith

no_one : (os : List Obj) → length os ≡ 0 → os ≡ []
no_one [] is = refl
no_one (o ∷ os) is = absurd (omega (arith, is))

module _ (site : Parts) (limits : Limits) (w0 : World) where
  abbrev pub end : Content
  end = content site w0.commits

  -- so many objects were left, and k times one was handed and put, where one waited
  pub record AreHanded (w : World) (work : Work) (k total : ℕ) : Type 0 where
    pub then : Work
    pub stands : Stands w0 w then
    pub calm : total ≤ k → waiting end then.done ≡ []
    pub busy : k < total → waiting end then.done ≡ [] → ⊥
    pub looked : then.looked ≡ work.looked
    pub once : then.once ≡ work.once
    pub joined : then.joined ≡ work.joined
    pub expanded : waiting end then.done ≡ [] → (j : ℕ) → work.expanded ≡ more 0 j → then.expanded ≡ more 0 (j + total)

  left_of : (done : List Obj) (o : Obj) → is_in (waiting end done) o ≡ true → is_in (without (is_in done) (live end)) o ≡ true
  left_of done o h =
      let parts : (is_in (found end done) o ≡ true) × (is_in done o ≡ false) = waiting_parts end done o h in
      in_filter (λ x. not (is_in done x)) (live end) o ∙ and_from _ _ (found_live end done o parts.0) (ap not parts.1)

  pub one_done : (done : List Obj) (o : Obj) → is_in (waiting end done) o ≡ true →
      suc (length (without (is_in (in_order obj_cmp (o ∷ done))) (live end))) ≡ length (without (is_in done) (live end))
  one_done done o h =
      let parts : (is_in (found end done) o ≡ true) × (is_in done o ≡ false) = waiting_parts end done o h in
      ap (λ l. suc (length l)) (filter_same (λ x. not (is_in (in_order obj_cmp (o ∷ done)) x)) (λ x. not (same_obj x o || is_in done x)) (live end) (λ x inside. ap not (in_ordered (o ∷ done) x)))
      ∙ one_less (live end) (once_live end) (is_in done) o (found_live end done o parts.0) parts.1

  all_done : (done : List Obj) → waiting end done ≡ [] → length (without (is_in done) (live end)) ≡ 0
  all_done done none =
      let every : (f : Obj) → is_in (found end done) f ≡ true → is_in done f ≡ true = done_unless_waiting end done none in
      none_left (is_in done) (live end) (λ x inside. every x (ap (λ l. is_in l x) (found_is_live end done every) ∙ inside))

  none_next : (last : Option Obj) → next_of last [] ≡ None
  none_next None = refl
  none_next (Some o) = refl

  -- where nothing waits, a hand is told so
  pub hand_last : (w : World) (work : Work) → Stands w0 w work → waiting end work.done ≡ [] → step site limits w (Hand 0) ≡ told NoneWaits w
  hand_last w work s calm =
      (λ i. handed site 0 (s.has i) (s.slot i) w)
      ∙ ap (λ o. handed_to site 0 work o w) (ap (λ c. next_of work.last_handed (waiting c work.done)) (at_last site limits w0 w work s) ∙ ap (next_of work.last_handed) calm ∙ none_next work.last_handed)

  -- where one waits, an object is handed
  pub hand_one : (w : World) (work : Work) → Stands w0 w work → (x : Obj) (xs : List Obj) → waiting end work.done ≡ x ∷ xs → (o : Obj) × LastTold (step site limits w (Hand 0)) (Handed o)
  hand_one w work s x xs is =
      let next : (o : Obj) × (next_of work.last_handed (x ∷ xs) ≡ Some o) × (is_in (x ∷ xs) o ≡ true) = next_in work.last_handed x xs in
      let goes : step site limits w (Hand 0) ≡ handed_to site 0 work (Some next.0) w =
      hand_step site limits w0 w work s next.0 (ap (next_of work.last_handed) is ∙ next.1) (ap (λ l. is_in l next.0) is ∙ next.2) in
      (next.0, (w.replies, ap (λ v. v.replies) goes))

  -- where nothing waits, a hand and a put change nothing
  hand_nothing : (w : World) (work : Work) → Stands w0 w work → waiting end work.done ≡ [] → Stands w0 (step site limits (step site limits w (Hand 0)) (Put 0)) work
  hand_nothing w work s calm =
      let first : step site limits w (Hand 0) ≡ told NoneWaits w = hand_last w work s calm in
      let goes : step site limits (step site limits w (Hand 0)) (Put 0) ≡ told (SlotEmpty 0) (told NoneWaits w) =
      ap (λ v. step site limits v (Put 0)) first ∙ ap (λ o. put_from site 0 o (told NoneWaits w)) s.slot in
      subst (λ v. Stands w0 v work) (sym goes) (record { commits = s.commits; target = s.target; log = s.log; nodes = s.nodes; has = s.has; slot = s.slot; here = s.here })

  hands_any : (k n : ℕ) (w : World) (work : Work) → Stands w0 w work → length (without (is_in work.done) (live end)) ≡ n →
      AreHanded (Steps site limits w0 w (hands k)) work k n
  hands_any zero n w work s left = record {
    then = work;
    stands = s;
    calm = λ few. by_waiting few (waiting end work.done) refl;
    busy = λ more calm. omega (arith, more, left, all_done work.done calm);
    looked = refl;
    once = refl;
    joined = refl;
    expanded = λ calm j count. count ∙ ap (more 0) (omega (arith, left, all_done work.done calm));
  }
    where
      by_waiting : n ≤ 0 → (os : List Obj) → waiting end work.done ≡ os → os ≡ []
      by_waiting few [] is = refl
      by_waiting few (x ∷ xs) is =
          absurd (omega (arith, few, left, has_one (without (is_in work.done) (live end)) x (left_of work.done x (ap (λ l. is_in l x) is ∙ or_left (same_obj x x) (is_in xs x) (obj_itself x)))))
  hands_any (suc k) n w work s left = by_waiting (λ n v work s left. hands_any k n v work s left) (waiting end work.done) refl
    where
      by_waiting : ((n : ℕ) (v : World) (work : Work) → Stands w0 v work → length (without (is_in work.done) (live end)) ≡ n → AreHanded (Steps site limits w0 v (hands k)) work k n) →
          (os : List Obj) → waiting end work.done ≡ os → AreHanded (Steps site limits w0 w (hands (suc k))) work (suc k) n
      by_waiting onward [] is =
          let rest : AreHanded (Steps site limits w0 (step site limits (step site limits w (Hand 0)) (Put 0)) (hands k)) work k n =
          onward n (step site limits (step site limits w (Hand 0)) (Put 0)) work (hand_nothing w work s is) left in
          record {
            then = rest.then;
            stands = rest.stands;
            calm = λ few. rest.calm (omega (arith, left, all_done work.done is));
            busy = λ more calm. omega (arith, more, left, all_done work.done is);
            looked = rest.looked;
            once = rest.once;
            joined = rest.joined;
            expanded = rest.expanded;
          }
      by_waiting onward (x ∷ xs) is =
          let next : (o : Obj) × (next_of work.last_handed (x ∷ xs) ≡ Some o) × (is_in (x ∷ xs) o ≡ true) = next_in work.last_handed x xs in
          let waits : is_in (waiting end work.done) next.0 ≡ true = ap (λ l. is_in l next.0) is ∙ next.2 in
          let at : Stands w0 (step site limits (step site limits w (Hand 0)) (Put 0)) (with_done next.0 (record work { last_handed = Some next.0 })) =
          hand_put site limits w0 w work s next.0 (ap (next_of work.last_handed) is ∙ next.1) waits in
          let fewer : suc (length (without (is_in (in_order obj_cmp (next.0 ∷ work.done))) (live end))) ≡ n = one_done work.done next.0 waits ∙ left in
          let rest : AreHanded (Steps site limits w0 (step site limits (step site limits w (Hand 0)) (Put 0)) (hands k)) (with_done next.0 (record work { last_handed = Some next.0 })) k
          (length (without (is_in (in_order obj_cmp (next.0 ∷ work.done))) (live end))) =
          onward (length (without (is_in (in_order obj_cmp (next.0 ∷ work.done))) (live end))) (step site limits (step site limits w (Hand 0)) (Put 0)) (with_done next.0 (record work { last_handed = Some next.0 })) at refl in
          record {
            then = rest.then;
            stands = rest.stands;
            calm = λ few. rest.calm (omega (arith, fewer, few));
            busy = λ more calm. rest.busy (omega (arith, fewer, more)) calm;
            looked = rest.looked;
            once = rest.once;
            joined = rest.joined;
            expanded = λ calm j count. rest.expanded calm (suc j) (ap (λ e. more e 1) count ∙ more_more j 1 ∙ ap (more 0) (omega arith)) ∙ ap (more 0) (omega (arith, fewer));
          }

  -- joining

  -- the objects that were joined now have looks, and had none at first
  pub record AreJoined (looked0 once0 : List Obj) (work : Work) : Type 0 where
    pub now : List Obj
    pub looked : (x : Obj) → is_in work.looked x ≡ (is_in now x || is_in looked0 x)
    pub once : (x : Obj) → is_in work.once x ≡ (is_in now x || is_in once0 x)
    pub new : (x : Obj) → is_in now x ≡ true → is_in looked0 x ≡ false

  -- so many objects had no look, and m times a level was joined, where there was one
  pub record AllJoined (w : World) (work : Work) (looked0 once0 : List Obj) (m total : ℕ) : Type 0 where
    pub then : Work
    pub stands : Stands w0 w then
    pub calm : waiting end then.done ≡ []
    pub none : total ≤ m → unjoined end then ≡ []
    pub parts : AreJoined looked0 once0 then
    pub expanded : then.expanded ≡ work.expanded
    pub joined : unjoined end then ≡ [] → (j : ℕ) → work.joined ≡ more 0 j → then.joined ≡ more 0 (j + total)

  or_assoc : (a b c : Bool) → (a || (b || c)) ≡ ((a || b) || c)
  or_assoc true b c = refl
  or_assoc false b c = refl

  or_false : (a b : Bool) → (a || b) ≡ false → b ≡ false
  or_false true b h = absurd (true≢false h)
  or_false false b h = h

  in_both : (os ps : List Obj) (x : Obj) → is_in (in_order obj_cmp (os ++ ps)) x ≡ (is_in os x || is_in ps x)
  in_both os ps x = in_ordered (os ++ ps) x ∙ any_append (same_obj x) os ps

  level_parts : (work : Work) (x : Obj) → is_in (level end work) x ≡ true → is_in (unjoined end work) x ≡ true
  level_parts work x h = (and_parts (is_in (unjoined end work) x) _ (sym (in_filter _ (unjoined end work) x) ∙ h)).0

  unjoined_of : (work : Work) (x : Obj) → is_in (unjoined end work) x ≡ true → (is_in (found end work.done) x ≡ true) × (is_in work.looked x ≡ false)
  unjoined_of work x h =
      let both : (is_in (found end work.done) x ≡ true) × (not (is_in work.looked x) ≡ true) = and_parts _ _ (sym (in_filter (λ o. not (is_in work.looked o)) (found end work.done) x) ∙ h) in
      (both.0, not-true _ both.1)

  in_more : (os ps : List Obj) (x : Obj) → is_in (os ++ ps) x ≡ (is_in os x || is_in ps x)
  in_more os ps x = any_append (same_obj x) os ps

  joined_more : (looked0 once0 : List Obj) (work : Work) → AreJoined looked0 once0 work → AreJoined looked0 once0 (with_joined (level end work) work)
  joined_more looked0 once0 work are = record {
    now = level end work ++ are.now;
    looked = λ x. in_both (level end work) work.looked x ∙ ap (λ b. is_in (level end work) x || b) (are.looked x)
        ∙ or_assoc (is_in (level end work) x) (is_in are.now x) (is_in looked0 x) ∙ ap (λ b. b || is_in looked0 x) (sym (in_more (level end work) are.now x));
    once = λ x. in_both (level end work) work.once x ∙ ap (λ b. is_in (level end work) x || b) (are.once x)
        ∙ or_assoc (is_in (level end work) x) (is_in are.now x) (is_in once0 x) ∙ ap (λ b. b || is_in once0 x) (sym (in_more (level end work) are.now x));
    new = λ x h. elim (or_cases (is_in (level end work) x) (is_in are.now x) (sym (in_more (level end work) are.now x) ∙ h)) [
      | inl now ↦ or_false (is_in are.now x) (is_in looked0 x) (sym (are.looked x) ∙ (unjoined_of work x (level_parts work x now)).1)
      | inr before ↦ are.new x before
    ];
  }

  pub level_less : (work : Work) → length (unjoined end (with_joined (level end work) work)) + length (level end work) ≡ length (unjoined end work)
  level_less work =
      ap (λ l. length l + length (level end work)) (filter_same (λ x. not (is_in (in_order obj_cmp (level end work ++ work.looked)) x)) (λ x. not (is_in (level end work) x || is_in work.looked x)) (found end work.done)
      (λ x inside. ap not (in_both (level end work) work.looked x)))
      ∙ some_less (found end work.done) (once_found end work.done) (level end work)
      (once_filter (λ o. list_all (is_in work.looked) (embeds end o)) (unjoined end work) (once_filter (λ o. not (is_in work.looked o)) (found end work.done) (once_found end work.done))) (is_in work.looked)
      (λ x h. unjoined_of work x (level_parts work x h))

  -- what a join is told, where nothing waits
  pub join_tells : (w : World) (work : Work) → Stands w0 w work → waiting end work.done ≡ [] → (us : List Obj) → unjoined end work ≡ us →
      step site limits w Join ≡ joined_by site work [] us (level end work) w
  join_tells w work s calm us is =
      let there : at site w work.version ≡ end = at_last site limits w0 w work s in
      (λ i. join_step site (s.has i) w) ∙ (λ i. joined_by site work (waiting (there i) work.done) (unjoined (there i) work) (level (there i) work) w) ∙ (λ i. joined_by site work (calm i) (is i) (level end work) w)

  pub still_stands : (w : World) (work : Work) (reply : Told) → Stands w0 w work → Stands w0 (told reply w) work
  still_stands w work reply s = record { commits = s.commits; target = s.target; log = s.log; nodes = s.nodes; has = s.has; slot = s.slot; here = s.here }

  module _ (earlier : EmbedsEarlier end) where
    joins_any : (m : ℕ) (looked0 once0 : List Obj) (w : World) (work : Work) → Stands w0 w work → waiting end work.done ≡ [] → AreJoined looked0 once0 work →
        AllJoined (Steps site limits w0 w (joins m)) work looked0 once0 m (length (unjoined end work))
    joins_any zero looked0 once0 w work s calm are = record {
      then = work;
      stands = s;
      calm = calm;
      none = λ few. no_one (unjoined end work) (omega (arith, few));
      parts = are;
      expanded = refl;
      joined = λ none j count. count ∙ ap (more 0) (omega (arith, ap length none));
    }
    joins_any (suc m) looked0 once0 w work s calm are = by_unjoined (λ v new. joins_any m looked0 once0 v new) (unjoined end work) refl
      where
        by_unjoined : ((v : World) (new : Work) → Stands w0 v new → waiting end new.done ≡ [] → AreJoined looked0 once0 new →
            AllJoined (Steps site limits w0 v (joins m)) new looked0 once0 m (length (unjoined end new))) →
            (us : List Obj) → unjoined end work ≡ us → AllJoined (Steps site limits w0 w (joins (suc m))) work looked0 once0 (suc m) (length (unjoined end work))
        by_unjoined onward [] is =
            let there : at site w work.version ≡ end = at_last site limits w0 w work s in
            let goes : step site limits w Join ≡ joined_by site work [] [] (level end work) w =
            (λ i. join_step site (s.has i) w) ∙ (λ i. joined_by site work (waiting (there i) work.done) (unjoined (there i) work) (level (there i) work) w) ∙ (λ i. joined_by site work (calm i) (is i) (level end work) w) in
            let rest : AllJoined (Steps site limits w0 (joined_by site work [] [] (level end work) w) (joins m)) work looked0 once0 m (length (unjoined end work)) =
            onward (joined_by site work [] [] (level end work) w) work (record { commits = s.commits; target = s.target; log = s.log; nodes = s.nodes; has = s.has; slot = s.slot; here = s.here }) calm are in
            record {
              then = rest.then;
              stands = subst (λ v. Stands w0 (Steps site limits w0 v (joins m)) rest.then) (sym goes) rest.stands;
              calm = rest.calm;
              none = λ few. rest.none (omega (arith, ap length is));
              parts = rest.parts;
              expanded = rest.expanded;
              joined = rest.joined;
            }
        by_unjoined onward (u ∷ us) is =
            let some : (v : Obj) × (is_in (level end work) v ≡ true) = some_level end work earlier calm (suc u.template) u (omega arith) (ap (λ l. is_in l u) is ∙ or_left (same_obj u u) (is_in us u) (obj_itself u)) in
            let least : 1 ≤ length (level end work) = has_one (level end work) some.0 some.1 in
            let there : at site w work.version ≡ end = at_last site limits w0 w work s in
            let goes : step site limits w Join ≡ joined_by site work [] (u ∷ us) (level end work) w =
            (λ i. join_step site (s.has i) w) ∙ (λ i. joined_by site work (waiting (there i) work.done) (unjoined (there i) work) (level (there i) work) w) ∙ (λ i. joined_by site work (calm i) (is i) (level end work) w) in
            let rest : AllJoined (Steps site limits w0 (joined_by site work [] (u ∷ us) (level end work) w) (joins m)) (with_joined (level end work) work) looked0 once0 m (length (unjoined end (with_joined (level end work) work))) =
            onward (joined_by site work [] (u ∷ us) (level end work) w) (with_joined (level end work) work)
            (record { commits = s.commits; target = s.target; log = s.log; nodes = s.nodes; has = refl; slot = s.slot; here = s.here }) calm (joined_more looked0 once0 work are) in
            record {
              then = rest.then;
              stands = subst (λ v. Stands w0 (Steps site limits w0 v (joins m)) rest.then) (sym goes) rest.stands;
              calm = rest.calm;
              none = λ few. rest.none (omega (arith, level_less work, least, few));
              parts = rest.parts;
              expanded = rest.expanded;
              joined = λ none j count. rest.joined none (j + length (level end work)) (ap (λ e. more e (length (level end work))) count ∙ more_more j (length (level end work)))
                  ∙ ap (more 0) (omega (arith, level_less work));
            }

  -- the start of a work
  pub record AreBegun (w : World) (work : Work) : Type 0 where
    pub stands : Stands w0 w work
    pub done : without (is_in work.done) (live end) ≡ expanded (target_content site w0.commits w0.target) end
    pub looked : without (is_in work.looked) (live end) ≡ joined (target_content site w0.commits w0.target) end
    pub once : work.once ≡ []
    pub expanded : work.expanded ≡ 0
    pub joined : work.joined ≡ 0

  not_and : (a b : Bool) → not (a && not b) ≡ (not a || b)
  not_and true true = refl
  not_and true false = refl
  not_and false b = refl

  all_left : (os : List Obj) → without (is_in []) os ≡ os
  all_left [] = refl
  all_left (o ∷ os) = ap (λ l. o ∷ l) (all_left os)

  renewed_left : (test : Content → Content → Obj → Bool) (a : Content) → without (is_in (without (test a end) (live a))) (live end) ≡ renewed test (Some a) end
  renewed_left test a =
      filter_same (λ o. not (is_in (without (test a end) (live a)) o)) (λ o. not (is_in (live a) o) || test a end o) (live end)
      (λ x inside. ap not (in_filter (λ o. not (test a end o)) (live a) x) ∙ not_and (is_in (live a) x) (test a end x))

  module _ (idle : w0.work ≡ None) (empty : fin.get w0.slots 0 ≡ None) where
    begun_none : w0.target ≡ None → (work : Work) × AreBegun (step site limits w0 Begin) work
    begun_none none = (
      first_work (length w0.commits),
      record {
        stands = subst (λ v. Stands w0 v (first_work (length w0.commits))) (sym (λ i. begun site (idle i) (none i) w0))
            (record { commits = refl; target = refl; log = refl; nodes = refl; has = refl; slot = empty; here = refl });
        done = all_left (live end) ∙ sym (ap (λ t. expanded (option_map (version site w0.commits) t) end) none);
        looked = all_left (live end) ∙ sym (ap (λ t. joined (option_map (version site w0.commits) t) end) none);
        once = refl;
        expanded = refl;
        joined = refl;
      },
    )

    begun_some : (a : ℕ) → w0.target ≡ Some a → (a ≡ length w0.commits → ⊥) → (work : Work) × AreBegun (step site limits w0 Begin) work
    begun_some a some other =
        let work : Work = work_from (at site w0 a) (length w0.commits) end in
        let goes : step site limits w0 Begin ≡ opened site (work_from (at site w0 a) (length w0.commits) end) w0 =
        (λ i. begun site (idle i) (some i) w0)
        ∙ begun_next site a w0
        ∙ ap (λ b. cond b (told (Begins (Nothing a)) w0) (opened site (work_from (at site w0 a) (length w0.commits) end) w0)) (ne_eqb a (length w0.commits) other) in (
          work_from (at site w0 a) (length w0.commits) end,
          record {
            stands = subst (λ v. Stands w0 v (work_from (at site w0 a) (length w0.commits) end)) (sym goes)
                (record { commits = refl; target = refl; log = refl; nodes = refl; has = refl; slot = empty; here = refl });
            done = renewed_left touched (at site w0 a) ∙ sym (ap (λ t. expanded (option_map (version site w0.commits) t) end) some);
            looked = renewed_left affected (at site w0 a) ∙ sym (ap (λ t. joined (option_map (version site w0.commits) t) end) some);
            once = refl;
            expanded = refl;
            joined = refl;
          },
        )

    pub begins : (target : Option ℕ) → w0.target ≡ target → (w0.target ≡ Some (length w0.commits) → ⊥) → (work : Work) × AreBegun (step site limits w0 Begin) work
    begins None is other = begun_none is
    begins (Some a) is other = begun_some a is (λ same. other (is ∙ ap Some same))

  -- from a work that is open at the last version to the report
  pub finish_step : (v : World) (work : Work) (s : Stands w0 v work) → waiting end work.done ≡ [] → unjoined end work ≡ [] → step site limits v Finish ≡ finished_by end work [] [] v
  finish_step v work s calm none =
      let there : at site v work.version ≡ end = at_last site limits w0 v work s in
      (λ i. finished site (s.has i) v)
      ∙ (λ i. finished_by (there i) work (waiting (there i) work.done) (unjoined (there i) work) v)
      ∙ (λ i. finished_by end work (calm i) (none i) v)

  looked_all : (work : Work) → waiting end work.done ≡ [] → unjoined end work ≡ [] → (x : Obj) → is_in (live end) x ≡ true → is_in work.looked x ≡ true
  looked_all work calm none x inside = elim (cases_Bool (is_in work.looked x)) [
    | inl is ↦ is
    | inr isnt ↦
        absurd (true≢false (sym (in_filter (λ o. not (is_in work.looked o)) (found end work.done) x
        ∙ and_from _ _ (ap (λ l. is_in l x) (found_is_live end work.done (done_unless_waiting end work.done calm)) ∙ inside) (ap not isnt)) ∙ ap (λ l. is_in l x) none))
  ]

  -- an object that wasn't joined had a look, and wasn't joined before
  not_joined : (now old before : Bool) → (now || old) ≡ true → (now ≡ true → old ≡ false) → not (now || before) ≡ (old && not before)
  not_joined true old before h new = ap (λ b. b && not before) (sym (new refl))
  not_joined false true before h new = refl
  not_joined false false before h new = absurd (true≢false (sym h))

  kept_left : (looked0 once0 : List Obj) (work : Work) → waiting end work.done ≡ [] → unjoined end work ≡ [] → AreJoined looked0 once0 work →
      without (is_in work.once) (live end) ≡ filter (λ x. is_in looked0 x && not (is_in once0 x)) (live end)
  kept_left looked0 once0 work calm none are =
      filter_same (λ o. not (is_in work.once o)) (λ x. is_in looked0 x && not (is_in once0 x)) (live end) (λ x inside.
      ap not (are.once x) ∙ not_joined (is_in are.now x) (is_in looked0 x) (is_in once0 x) (sym (are.looked x) ∙ looked_all work calm none x inside) (are.new x))

  -- the end of a work that was this one when it stood at the last version
  pub record Ends (v : World) (work : Work) : Type 0 where
    pub idle : v.work ≡ None
    pub target : v.target ≡ Some (length w0.commits)
    pub commits : v.commits ≡ w0.commits
    pub log : v.log ≡ w0.log
    pub nodes : v.nodes ≡ w0.nodes
    pub slot : fin.get v.slots 0 ≡ None
    pub front : List Told
    pub expanded : ℕ
    pub joined : ℕ
    pub report : v.replies ≡ front ++ Finished (Report (record {
      version = length w0.commits;
      expanded = expanded;
      joined = joined;
      kept = length (filter (λ x. is_in work.looked x && not (is_in work.once x)) (live end));
    })) ∷ []
    pub all_expanded : (j : ℕ) → work.expanded ≡ more 0 j → expanded ≡ more 0 (j + length (without (is_in work.done) (live end)))
    pub all_joined : (j : ℕ) → work.joined ≡ more 0 j → joined ≡ more 0 (j + length (without (is_in work.looked) (live end)))

  module _ (earlier : EmbedsEarlier end) (w : World) (work : Work) (s : Stands w0 w work) where
    abbrev pub to_hand : ℕ
    to_hand = length (without (is_in work.done) (live end))

    pub works : ℕ → ℕ → List Event
    works k m = handing k ++ (joining m ++ Finish ∷ [])

    -- the states behind the last hand, and behind the last join
    abbrev pub handed_all : ℕ → World
    handed_all k = step site limits (Steps site limits w0 w (hands k)) (Hand 0)

    abbrev pub joined_all : ℕ → ℕ → World
    joined_all k m = step site limits (Steps site limits w0 (handed_all k) (joins m)) Join

    pub handing_ends : (k : ℕ) → Steps site limits w0 w (handing k) ≡ handed_all k
    handing_ends k = fold-append (step site limits) w (hands k) (Hand 0 ∷ [])

    pub joining_ends : (v : World) (m : ℕ) → Steps site limits w0 v (joining m) ≡ step site limits (Steps site limits w0 v (joins m)) Join
    joining_ends v m = fold-append (step site limits) v (joins m) (Join ∷ [])

    pub ran : (k m : ℕ) → Steps site limits w0 w (works k m) ≡ step site limits (joined_all k m) Finish
    unfolding works
    ran k m =
        fold-append (step site limits) w (handing k) (joining m ++ Finish ∷ [])
        ∙ ap (λ v. Steps site limits w0 v (joining m ++ Finish ∷ [])) (handing_ends k)
        ∙ fold-append (step site limits) (handed_all k) (joining m) (Finish ∷ [])
        ∙ ap (λ v. step site limits v Finish) (joining_ends (handed_all k) m)

    pub handed_by : (k : ℕ) → AreHanded (Steps site limits w0 w (hands k)) work k to_hand
    handed_by k = hands_any k to_hand w work s refl

    pub stands_handed : (k : ℕ) → waiting end (handed_by k).then.done ≡ [] → Stands w0 (handed_all k) (handed_by k).then
    stands_handed k calm =
        subst (λ v. Stands w0 v (handed_by k).then) (sym (hand_last (Steps site limits w0 w (hands k)) (handed_by k).then (handed_by k).stands calm))
        (still_stands (Steps site limits w0 w (hands k)) (handed_by k).then NoneWaits (handed_by k).stands)

    pub joined_from : (k m : ℕ) → waiting end (handed_by k).then.done ≡ [] →
        AllJoined (Steps site limits w0 (handed_all k) (joins m)) (handed_by k).then work.looked work.once m (length (unjoined end (handed_by k).then))
    joined_from k m calm =
        joins_any earlier m work.looked work.once (handed_all k) (handed_by k).then (stands_handed k calm) calm (record {
          now = [];
          looked = λ x. ap (λ l. is_in l x) (handed_by k).looked;
          once = λ x. ap (λ l. is_in l x) (handed_by k).once;
          new = λ x inside. absurd (true≢false (sym inside));
        })

    pub join_last : (k m : ℕ) (calm : waiting end (handed_by k).then.done ≡ []) → unjoined end (joined_from k m calm).then ≡ [] →
        joined_all k m ≡ told (Joins Done) (Steps site limits w0 (handed_all k) (joins m))
    join_last k m calm none = join_tells (Steps site limits w0 (handed_all k) (joins m)) (joined_from k m calm).then (joined_from k m calm).stands (joined_from k m calm).calm [] none

    pub stands_joined : (k m : ℕ) (calm : waiting end (handed_by k).then.done ≡ []) → unjoined end (joined_from k m calm).then ≡ [] → Stands w0 (joined_all k m) (joined_from k m calm).then
    stands_joined k m calm none =
        subst (λ v. Stands w0 v (joined_from k m calm).then) (sym (join_last k m calm none))
        (still_stands (Steps site limits w0 (handed_all k) (joins m)) (joined_from k m calm).then (Joins Done) (joined_from k m calm).stands)

    pub ended : (k m : ℕ) (calm : waiting end (handed_by k).then.done ≡ []) → unjoined end (joined_from k m calm).then ≡ [] → Ends (Steps site limits w0 w (works k m)) work
    ended k m calm none =
        let h : AreHanded (Steps site limits w0 w (hands k)) work k to_hand = handed_by k in
        let j : AllJoined (Steps site limits w0 (handed_all k) (joins m)) (handed_by k).then work.looked work.once m (length (unjoined end (handed_by k).then)) = joined_from k m calm in
        let v : World = joined_all k m in
        let stands : Stands w0 (joined_all k m) (joined_from k m calm).then = stands_joined k m calm none in
        let is_live : found end h.then.done ≡ live end = found_is_live end h.then.done (done_unless_waiting end h.then.done calm) in
        subst (λ u. Ends u work) (sym (ran k m ∙ finish_step v j.then stands j.calm none)) (record {
          idle = refl;
          target = ap Some stands.here;
          commits = stands.commits;
          log = stands.log;
          nodes = stands.nodes;
          slot = stands.slot;
          front = v.replies;
          expanded = j.then.expanded;
          joined = j.then.joined;
          report = λ i. v.replies ++ Finished (Report (record {
            version = stands.here i;
            expanded = j.then.expanded;
            joined = j.then.joined;
            kept = length (kept_left work.looked work.once j.then j.calm none j.parts i);
          })) ∷ [];
          all_expanded = λ n count. j.expanded ∙ h.expanded calm n count;
          all_joined = λ n count. j.joined none n (h.joined ∙ count) ∙ ap (λ k. more 0 (n + k)) (λ i. length (without (is_in (h.looked i)) (is_live i)));
        })

    -- a hand that is told that none waits finds none
    pub hand_isnt : (k : ℕ) (x : Obj) (xs : List Obj) → waiting end (handed_by k).then.done ≡ x ∷ xs → LastTold (Steps site limits w0 w (handing k)) NoneWaits → ⊥
    hand_isnt k x xs is tells =
        let one : (o : Obj) × LastTold (handed_all k) (Handed o) = hand_one (Steps site limits w0 w (hands k)) (handed_by k).then (handed_by k).stands x xs is in
        let e : Handed one.0 ≡ NoneWaits = told_once (handed_all k) (Handed one.0) NoneWaits one.1 (subst (λ v. LastTold v NoneWaits) (handing_ends k) tells) in
        absurd (cc)

    -- a join that is told that all is done finds all done
    pub join_isnt : (k m : ℕ) (calm : waiting end (handed_by k).then.done ≡ []) (u : Obj) (us : List Obj) → unjoined end (joined_from k m calm).then ≡ u ∷ us →
        LastTold (Steps site limits w0 (Steps site limits w0 w (handing k)) (joining m)) (Joins Done) → ⊥
    join_isnt k m calm u us is tells =
        let j : AllJoined (Steps site limits w0 (handed_all k) (joins m)) (handed_by k).then work.looked work.once m (length (unjoined end (handed_by k).then)) = joined_from k m calm in
        let v : World = Steps site limits w0 (handed_all k) (joins m) in
        let goes : joined_all k m ≡ joined_by site j.then [] (u ∷ us) (level end j.then) v = join_tells v j.then j.stands j.calm (u ∷ us) is in
        let e : Joins (Level (length (level end j.then))) ≡ Joins Done =
        told_once (joined_all k m) (Joins (Level (length (level end j.then)))) (Joins Done) (v.replies, ap (λ u. u.replies) goes)
        (subst (λ u. LastTold u (Joins Done)) (ap (λ u. Steps site limits w0 u (joining m)) (handing_ends k) ∙ joining_ends (handed_all k) m) tells) in
        absurd (cc)

    -- the last hand is the first that finds none waiting
    pub first_hand : FirstTold site limits w handing NoneWaits to_hand
    first_hand =
        let h : AreHanded (Steps site limits w0 w (hands to_hand)) work to_hand to_hand = handed_by to_hand in
        let goes : Steps site limits w0 w (handing to_hand) ≡ told NoneWaits (Steps site limits w0 w (hands to_hand)) =
        handing_ends to_hand ∙ hand_last (Steps site limits w0 w (hands to_hand)) h.then h.stands (h.calm (let few : to_hand ≤ to_hand = omega arith in few)) in
        (((Steps site limits w0 w (hands to_hand)).replies, ap (λ v. v.replies) goes), before)
      where
        before : (i : ℕ) → i < to_hand → LastTold (Steps site limits w0 w (handing i)) NoneWaits → ⊥
        before i less tells = by_waiting (waiting end (handed_by i).then.done) refl
          where
            by_waiting : (os : List Obj) → waiting end (handed_by i).then.done ≡ os → ⊥
            by_waiting [] is = (handed_by i).busy less is
            by_waiting (x ∷ xs) is = hand_isnt i x xs is tells

    pub ends_from : (m : ℕ) × IsWorked site limits w to_hand m × Ends (Steps site limits w0 w (works to_hand m)) work
    ends_from =
        let calm : waiting end (handed_by to_hand).then.done ≡ [] = (handed_by to_hand).calm (let h : to_hand ≤ to_hand = omega arith in h) in
        let most : ℕ = length (unjoined end (handed_by to_hand).then) in
        let none : unjoined end (joined_from to_hand most calm).then ≡ [] = (joined_from to_hand most calm).none (let h : most ≤ most = omega arith in h) in
        let m : (m : ℕ) × (no_object (unjoined end (joined_from to_hand m calm).then) ≡ true) × ((i : ℕ) → i < m → no_object (unjoined end (joined_from to_hand i calm).then) ≡ false) =
        least (λ i. no_object (unjoined end (joined_from to_hand i calm).then)) most (ap no_object none) in
        let last : unjoined end (joined_from to_hand m.0 calm).then ≡ [] = no_object_is (unjoined end (joined_from to_hand m.0 calm).then) m.1 in
        let goes : Steps site limits w0 (Steps site limits w0 w (handing to_hand)) (joining m.0) ≡ told (Joins Done) (Steps site limits w0 (handed_all to_hand) (joins m.0)) =
        ap (λ u. Steps site limits w0 u (joining m.0)) (handing_ends to_hand) ∙ joining_ends (handed_all to_hand) m.0 ∙ join_last to_hand m.0 calm last in (
          m.0,
          record {
            handed = first_hand;
            joined = (
              ((Steps site limits w0 (handed_all to_hand) (joins m.0)).replies, ap (λ u. u.replies) goes),
              λ i less tells. not_done calm i (m.2 i less) tells (unjoined end (joined_from to_hand i calm).then) refl,
            );
          },
          ended to_hand m.0 calm last,
        )
      where
        not_done : (calm : waiting end (handed_by to_hand).then.done ≡ []) (i : ℕ) → no_object (unjoined end (joined_from to_hand i calm).then) ≡ false →
            LastTold (Steps site limits w0 (Steps site limits w0 w (handing to_hand)) (joining i)) (Joins Done) → (us : List Obj) → unjoined end (joined_from to_hand i calm).then ≡ us → ⊥
        not_done calm i some tells [] is = true≢false (sym (ap no_object is) ∙ some)
        not_done calm i some tells (u ∷ us) is = join_isnt to_hand i calm u us is tells

    pub works_are : (k m : ℕ) → works k m ≡ handing k ++ (joining m ++ Finish ∷ [])
    unfolding works
    works_are k m = refl

plus_more : (j n : ℕ) → more 0 (j + n) ≡ more j n
plus_more j n = omega arith

small_more : (j : ℕ) → j ≤ 2 ^ 64 - 1 → j ≡ more 0 j
small_more j h = omega (arith, h)

module _ (site : Parts) (limits : Limits) (w : World) (earlier : EmbedsEarlier (content site w.commits)) (empty : fin.get w.slots 0 ≡ None) where
  abbrev pub close : Content
  close = content site w.commits

  -- the whole of it, from a work that `begin` leaves open
  settled_from : (v : World) (work : Work) → step site limits w Begin ≡ v → Stands w v work →
      (m : ℕ) × IsWorked site limits (step site limits w Begin) (length (without (is_in work.done) (live close))) m
      × Ends site limits w (fold (step site limits) w (settling (length (without (is_in work.done) (live close))) m)) work
  settled_from v work is s =
      let e : (m : ℕ) × IsWorked site limits v (length (without (is_in work.done) (live close))) m × Ends site limits w (fold (step site limits) v (works site limits w earlier v work s (length (without (is_in work.done) (live close))) m)) work =
      ends_from site limits w earlier v work s in (
        e.0,
        subst (λ u. IsWorked site limits u (length (without (is_in work.done) (live close))) e.0) (sym is) e.1,
        subst (λ u. Ends site limits w u work)
            ((λ i. fold (step site limits) (sym is i) (works_are site limits w earlier v work s (length (without (is_in work.done) (live close))) e.0 i)))
            e.2,
      )

  -- a work that is open already
  begin_open : (work : Work) → w.work ≡ Some work → Stands w (step site limits w Begin) (begun_work site w work)
  begin_open work has = subst (λ v. Stands w v (begun_work site w work)) (sym (ap (λ o. begun site o w.target w) has ∙ begun_open site work w.target w)) (by_test (work.version == length w.commits) refl)
    where
      by_test : (b : Bool) → (work.version == length w.commits) ≡ b → Stands w (cond b (told (Begins (Same work.version)) w) (opened site (moved (at site w work.version) (length w.commits) (content site w.commits) work) w)) (cond b work (moved (at site w work.version) (length w.commits) (content site w.commits) work))
      by_test true is = record { commits = refl; target = refl; log = refl; nodes = refl; has = has; slot = empty; here = (Decides-eqb work.version (length w.commits)).0 is }
      by_test false is = record { commits = refl; target = refl; log = refl; nodes = refl; has = refl; slot = empty; here = refl }

  pub resumed : (work : Work) → w.work ≡ Some work →
      (m : ℕ) × IsWorked site limits (step site limits w Begin) (length (without (is_in (begun_work site w work).done) (live close))) m
      × Ends site limits w (fold (step site limits) w (settling (length (without (is_in (begun_work site w work).done) (live close))) m)) (begun_work site w work)
  resumed work has = settled_from (step site limits w Begin) (begun_work site w work) refl (begin_open work has)

  -- a work that was opened, and has come to its end
  pub settled_as : (v : World) (work : Work) → AreBegun site limits w (step site limits w Begin) work → Ends site limits w v work →
      IsSettled w (counts_of (target_content site w.commits w.target) close (length w.commits)) v
  settled_as v work b e = record {
    idle = e.idle;
    target = e.target;
    commits = e.commits;
    log = e.log;
    nodes = e.nodes;
    slot = e.slot;
    report = (
      e.front,
      e.report ∙ (λ i. e.front ++ Finished (Report (record {
        version = length w.commits;
        expanded = (e.all_expanded 0 b.expanded ∙ ap (more 0) (plus_zero (length (without (is_in work.done) (live close)))) ∙ ap (λ l. more 0 (length l)) b.done) i;
        joined = (e.all_joined 0 b.joined ∙ ap (more 0) (plus_zero (length (without (is_in work.looked) (live close)))) ∙ ap (λ l. more 0 (length l)) b.looked) i;
        kept = length ((ap (λ o. filter (λ x. is_in work.looked x && not (is_in o x)) (live close)) b.once ∙ old_left b.looked) i);
      })) ∷ []),
    );
  }
    where
      -- what had a look is what isn't to be joined
      and_true : (b : Bool) → (b && not false) ≡ b
      and_true true = refl
      and_true false = refl

      not_not : (b : Bool) → b ≡ not (true && not b)
      not_not true = refl
      not_not false = refl

      old_left : without (is_in work.looked) (live close) ≡ joined (target_content site w.commits w.target) close →
          filter (λ x. is_in work.looked x && not (is_in [] x)) (live close) ≡ without (is_in (joined (target_content site w.commits w.target) close)) (live close)
      old_left is = filter_same (λ x. is_in work.looked x && not (is_in [] x)) (λ x. not (is_in (joined (target_content site w.commits w.target) close) x)) (live close) (λ x inside.
          and_true (is_in work.looked x) ∙ not_not (is_in work.looked x)
          ∙ ap (λ b. not (b && not (is_in work.looked x))) (sym inside)
          ∙ ap not (sym (in_filter (λ o. not (is_in work.looked o)) (live close) x) ∙ ap (λ l. is_in l x) is))

  pub fresh : w.work ≡ None → (w.target ≡ Some (length w.commits) → ⊥) →
      (m : ℕ) × IsWorked site limits (step site limits w Begin) (length (expanded (target_content site w.commits w.target) close)) m
      × IsSettled w (counts_of (target_content site w.commits w.target) close (length w.commits)) (fold (step site limits) w (settling (length (expanded (target_content site w.commits w.target) close)) m))
  fresh idle other =
      let b : (work : Work) × AreBegun site limits w (step site limits w Begin) work = begins site limits w idle empty w.target refl other in
      let e : (m : ℕ) × IsWorked site limits (step site limits w Begin) (length (without (is_in b.0.done) (live close))) m
      × Ends site limits w (fold (step site limits) w (settling (length (without (is_in b.0.done) (live close))) m)) b.0 =
      settled_from (step site limits w Begin) b.0 refl b.1.stands in (
        e.0,
        subst (λ k. IsWorked site limits (step site limits w Begin) k e.0) (ap length b.1.done) e.1,
        subst (λ k. IsSettled w (counts_of (target_content site w.commits w.target) close (length w.commits)) (fold (step site limits) w (settling k e.0))) (ap length b.1.done)
            (settled_as (fold (step site limits) w (settling (length (without (is_in b.0.done) (live close))) e.0)) b.0 b.1 e.2),
      )

pub settle_reports : SettleReports
settle_reports site limits w earlier idle other empty = fresh site limits w earlier empty idle other

pub settle_resumes : SettleResumes
settle_resumes site limits w work earlier has empty expanded_fits joined_fits =
    let e : (m : ℕ) × IsWorked site limits (step site limits w Begin) (length (without (is_in (begun_work site w work).done) (live (content site w.commits)))) m
    × Ends site limits w (fold (step site limits) w (settling (length (without (is_in (begun_work site w work).done) (live (content site w.commits)))) m)) (begun_work site w work) =
    resumed site limits w earlier empty work has in
    let counts : ((begun_work site w work).expanded ≡ work.expanded) × ((begun_work site w work).joined ≡ work.joined) = same_counts (work.version == length w.commits) in (
      e.0,
      e.1,
      record {
        idle = e.2.idle;
        target = e.2.target;
        commits = e.2.commits;
        log = e.2.log;
        nodes = e.2.nodes;
        slot = e.2.slot;
        report = (
          e.2.front,
          e.2.report ∙ (λ i. e.2.front ++ Finished (Report (record {
            version = length w.commits;
            expanded = (e.2.all_expanded work.expanded (counts.0 ∙ small_more work.expanded expanded_fits)
                ∙ plus_more work.expanded (length (without (is_in (begun_work site w work).done) (live (content site w.commits))))
                ∙ ap (λ n. more n (length (without (is_in (begun_work site w work).done) (live (content site w.commits))))) (sym counts.0)) i;
            joined = (e.2.all_joined work.joined (counts.1 ∙ small_more work.joined joined_fits)
                ∙ plus_more work.joined (length (without (is_in (begun_work site w work).looked) (live (content site w.commits))))
                ∙ ap (λ n. more n (length (without (is_in (begun_work site w work).looked) (live (content site w.commits))))) (sym counts.1)) i;
            kept = length (filter (λ o. is_in (begun_work site w work).looked o && not (is_in (begun_work site w work).once o)) (live (content site w.commits)));
          })) ∷ []),
        );
      },
    )
  where
    same_counts : (b : Bool) →
        ((cond b work (moved (at site w work.version) (length w.commits) (content site w.commits) work)).expanded ≡ work.expanded)
        × ((cond b work (moved (at site w work.version) (length w.commits) (content site w.commits) work)).joined ≡ work.joined)
    same_counts true = (refl, refl)
    same_counts false = (refl, refl)
