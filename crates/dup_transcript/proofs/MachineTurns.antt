-- What each command does in the machine from where it stands.
use Rattle.std.proofs.Common.{◌≡◌, ℕ, zero, suc, ◌+◌, ◌-◌, Bool, true, cond, not, refl, sym, ap, subst, ◌∙◌, List, [], ◌∷◌, ◌++◌, append-nil, append_assoc, length}
use Rattle.std.specs.Prelude.{Option, Some, None, bytes_eq}
use Rattle.std.specs.List.{filter, fold, list_any}
use Rattle.std.specs.Ordering.{is_eq, nat_cmp}
use Rattle.std.specs.Cmp.{eq_by_cmp_equiv, nat_cmp_total}
use Rattle.std.specs.FinMap as fin
use Rattle.std.proofs.lemmas.List.Sums.{fold-append}
use Rattle.dup_names.specs.declared.object.Obj.{Obj}
use Rattle.dup_names.specs.Words.{Word, Path}
use Rattle.dup_template.specs.declared.site.Parts.{Parts}
use Rattle.dup_model.specs.Answers.{Reply, answer}
use Rattle.dup_model.specs.Caches.{Cache, catch_up}
use Rattle.dup_model.specs.declared.mode.Mode.{Mode}
use Rattle.dup_model.specs.Commits.{Commit, Refusal}
use Rattle.dup_model.specs.Editions.{Bundle}
use Rattle.dup_model.specs.Pages.{Target}
use Rattle.dup_model.specs.Journal.{Limits, commit_refusal}
use Rattle.dup_machine.specs.Nodes.{delivered, evicted, node_made, requested, with_node}
use Rattle.dup_machine.specs.Press.{handed, into_slot, press_of, published_by, put_from, target_of, with_press}
use Rattle.dup_machine.specs.Presses.{Press, commit_step, hand_step, version_of}
use Rattle.dup_machine.specs.Run.{run, step}
use Rattle.dup_machine.specs.Settle.{Settles, handing, hands, joining, joins, publishes, publishing, settling}
use Rattle.dup_machine.specs.Settle.Settles.{at_once, by_work}
use Rattle.dup_machine.specs.Status.{Status, status}
use Rattle.dup_machine.specs.Until.{LastTold}
use Rattle.dup_machine.specs.World.{Counts, Event, Slot, Told, Work, World, answered, first_world, told}
use Rattle.dup_machine.specs.World.Event.{Begin, Comes, Deliver, Evict, Finish, Hand, Join, Node, Publish, Put, Request}
use Rattle.dup_machine.specs.World.Told.{Delivered, Evicted, Handed, NodeMade, NodeTaken, NoNode, NoneWaits}
use Rattle.dup_machine.proofs.LastReply.{told_once}
use Rattle.dup_transcript.specs.Commands.{Command}
use Rattle.dup_transcript.specs.MachinePlays.{Happens, tells_kept}
use Rattle.dup_transcript.specs.Texts.{bad_feed_text, bad_line_text, not_built_text, settled_text, status_text, told_text}
use Rattle.dup_transcript.specs.Turns.{PlaysFrom, Standing, StandsAs, Turns, first_standing}
use Rattle.dup_transcript.specs.declared.command.Command.TheVariants as command
use Rattle.dup_model.specs.declared.feed_refusal.FeedRefusal.{FeedRefusal}

pub first_stands : StandsAs first_standing first_world
first_stands = record { press = refl; slot = fin.get-empty nat_cmp 0; nodes = λ n. fin.get-empty nat_cmp n }

-- one node has this cache now
abbrev pub PutsCache : (ℕ → Option Cache) → ℕ → Cache → (ℕ → Option Cache) → Type 0
PutsCache old node cache new = (n : ℕ) → new n ≡ cond (is_eq (nat_cmp node n)) (Some cache) (old n)

-- a reply more leaves where the machine stands
stands_told : (s : Standing) (w : World) (reply : Told) → StandsAs s w → StandsAs s (told reply w)
stands_told s w reply f = record { press = f.press; slot = f.slot; nodes = f.nodes }

puts_stands : (s t : Standing) (w : World) (reply : Told) (node : ℕ) (cache : Cache) → StandsAs s w → t.press ≡ s.press → PutsCache s.nodes node cache t.nodes
    → StandsAs t (told reply (with_node node cache w))
puts_stands s t w reply node cache f press puts = record {
  press = f.press ∙ sym press;
  slot = f.slot;
  nodes = λ n. fin.get-insert nat_cmp_total w.nodes node cache n
      ∙ (λ i. cond ((eq_by_cmp_equiv nat_cmp_total).symm n node i) (Some cache) (f.nodes n i))
      ∙ sym (puts n);
}

module _ (site : Parts) (limits : Limits) where
  -- one event whose reply is this, and where the machine stands then
  happens : (t : Standing) (w v : World) (event : Event) (reply : Told) → step site limits w event ≡ told reply v → StandsAs t (told reply v)
      → Happens site limits w event (tells_kept reply) (event ∷ []) (told_text reply) × StandsAs t (step site limits w event)
  happens t w v event reply goes stands = (
    (refl, (reply, (v.replies, ap (λ (u : World). u.replies) goes), refl, refl)),
    subst (StandsAs t) (sym goes) stands,
  )

  abbrev causes : Standing → Commit → Option Refusal
  causes s commit = commit_refusal site limits s.press.commits commit

  pub turns_commit : (s : Standing) (number : ℕ) (commit : Commit) (reply : Told) (new : Press) → commit_step commit (causes s commit) s.press ≡ (reply, new)
      → Turns site limits s number (command.Commit commit) (told_text reply) (record s { press = new })
  turns_commit s number commit reply new is w stands =
      let tells : commit_step commit (commit_refusal site limits w.commits commit) (press_of w) ≡ (reply, new) =
      ap (λ (p : Press). commit_step commit (commit_refusal site limits p.commits commit) p) stands.press ∙ is in
      let goes : step site limits w (Comes commit) ≡ told reply (with_press new w) = ap (λ (r : Told × Press). told r.0 (with_press r.1 w)) tells in
      let h = happens (record s { press = new }) w (with_press new w) (Comes commit) reply goes (record { press = refl; slot = stands.slot; nodes = stands.nodes }) in
      (tells_kept reply, Comes commit ∷ [], h.0, h.1)

  abbrev pub new_cache : ℕ → Mode → Cache
  new_cache capacity mode = record { capacity = capacity; mode = mode; number = 0; entries = [] }

  pub turns_taken : (s : Standing) (number node capacity : ℕ) (mode : Mode) (cache : Cache) → s.nodes node ≡ Some cache
      → Turns site limits s number (command.Node node capacity mode) (told_text (NodeTaken node)) s
  turns_taken s number node capacity mode cache known w f =
      let h = happens s w w (Node node capacity mode) (NodeTaken node) (ap (λ (o : Option Cache). node_made node capacity mode o w) (f.nodes node ∙ known)) (stands_told s w (NodeTaken node) f) in
      (true, Node node capacity mode ∷ [], h.0, h.1)

  pub turns_made : (s t : Standing) (number node capacity : ℕ) (mode : Mode) → s.nodes node ≡ None → t.press ≡ s.press → PutsCache s.nodes node (new_cache capacity mode) t.nodes
      → Turns site limits s number (command.Node node capacity mode) (told_text (NodeMade node)) t
  turns_made s t number node capacity mode known press puts w f =
      let new : Cache = new_cache capacity mode in
      let h = happens t w (with_node node new w) (Node node capacity mode) (NodeMade node) (ap (λ (o : Option Cache). node_made node capacity mode o w) (f.nodes node ∙ known))
      (puts_stands s t w (NodeMade node) node new f press puts) in
      (true, Node node capacity mode ∷ [], h.0, h.1)

  -- a command of a node that isn't there
  pub get_no_node : (s : Standing) (number node pass : ℕ) (path : Path) → s.nodes node ≡ None → Turns site limits s number (command.Get node pass path) (told_text (NoNode node)) s
  get_no_node s number node pass path known w f =
      let h = happens s w w (Request node pass path true) (NoNode node) (ap (λ (o : Option Cache). requested node pass path true o w) (f.nodes node ∙ known)) (stands_told s w (NoNode node) f) in
      (true, Request node pass path true ∷ [], h.0, h.1)

  pub deliver_no_node : (s : Standing) (number node : ℕ) → s.nodes node ≡ None → Turns site limits s number (command.Deliver node) (told_text (NoNode node)) s
  deliver_no_node s number node known w f =
      let h = happens s w w (Deliver node) (NoNode node) (ap (λ (o : Option Cache). delivered node o w) (f.nodes node ∙ known)) (stands_told s w (NoNode node) f) in
      (true, Deliver node ∷ [], h.0, h.1)

  pub evict_no_node : (s : Standing) (number node : ℕ) (path : Path) → s.nodes node ≡ None → Turns site limits s number (command.Evict node path) (told_text (NoNode node)) s
  evict_no_node s number node path known w f =
      let h = happens s w w (Evict node path) (NoNode node) (ap (λ (o : Option Cache). evicted node path o w) (f.nodes node ∙ known)) (stands_told s w (NoNode node) f) in
      (true, Evict node path ∷ [], h.0, h.1)

  -- and of one that is
  pub turns_get : (s t : Standing) (number node pass : ℕ) (path : Path) (cache new : Cache) (kept : Bool) (reply : Reply) → s.nodes node ≡ Some cache
      → kept ≡ tells_kept (answered reply) → reply ≡ (answer cache s.press.log pass path kept).reply → new ≡ (answer cache s.press.log pass path kept).cache
      → t.press ≡ s.press → PutsCache s.nodes node new t.nodes → Turns site limits s number (command.Get node pass path) (told_text (answered reply)) t
  turns_get s t number node pass path cache new kept reply known shows replies caches press puts w f =
      let goes : step site limits w (Request node pass path kept) ≡ told (answered reply) (with_node node new w) =
      ap (λ (o : Option Cache). requested node pass path kept o w) (f.nodes node ∙ known)
      ∙ ap (λ (p : Press). told (answered (answer cache p.log pass path kept).reply) (with_node node (answer cache p.log pass path kept).cache w)) f.press
      ∙ (λ i. told (answered (sym replies i)) (with_node node (sym caches i) w)) in
      let h = happens t w (with_node node new w) (Request node pass path kept) (answered reply) goes (puts_stands s t w (answered reply) node new f press puts) in
      (kept, Request node pass path kept ∷ [], subst (λ (k : Bool). Happens site limits w (Request node pass path kept) k (Request node pass path kept ∷ []) (told_text (answered reply))) (sym shows) h.0, h.1)

  pub turns_deliver : (s t : Standing) (number node : ℕ) (cache new : Cache) → s.nodes node ≡ Some cache → new ≡ catch_up s.press.log cache
      → t.press ≡ s.press → PutsCache s.nodes node new t.nodes → Turns site limits s number (command.Deliver node) (told_text (Delivered node new.number (length new.entries))) t
  turns_deliver s t number node cache new known caught press puts w f =
      let goes : step site limits w (Deliver node) ≡ told (Delivered node new.number (length new.entries)) (with_node node new w) =
      ap (λ (o : Option Cache). delivered node o w) (f.nodes node ∙ known)
      ∙ ap (λ (c : Cache). told (Delivered node c.number (length c.entries)) (with_node node c w)) (ap (λ (p : Press). catch_up p.log cache) f.press ∙ sym caught) in
      let reply : Told = Delivered node new.number (length new.entries) in
      let h = happens t w (with_node node new w) (Deliver node) reply goes (puts_stands s t w reply node new f press puts) in
      (true, Deliver node ∷ [], h.0, h.1)

  pub turns_evict : (s t : Standing) (number node : ℕ) (path : Path) (cache new : Cache) (found : Bool) → s.nodes node ≡ Some cache
      → found ≡ list_any (λ page. bytes_eq page.path path) cache.entries → new ≡ record cache { entries = filter (λ page. not (bytes_eq page.path path)) cache.entries }
      → t.press ≡ s.press → PutsCache s.nodes node new t.nodes → Turns site limits s number (command.Evict node path) (told_text (Evicted found)) t
  turns_evict s t number node path cache new found known finds leaves press puts w f =
      let goes : step site limits w (Evict node path) ≡ told (Evicted found) (with_node node new w) =
      ap (λ (o : Option Cache). evicted node path o w) (f.nodes node ∙ known)
      ∙ (λ i. told (Evicted (sym finds i)) (with_node node (sym leaves i) w)) in
      let h = happens t w (with_node node new w) (Evict node path) (Evicted found) goes (puts_stands s t w (Evicted found) node new f press puts) in
      (true, Evict node path ∷ [], h.0, h.1)

  pub turns_bad_feed : (s : Standing) (number : ℕ) (why : FeedRefusal) → Turns site limits s number (command.BadFeed why) (bad_feed_text why) s
  turns_bad_feed s number why w f = (true, [], (refl, refl, refl), f)

  pub turns_blank : (s : Standing) (number : ℕ) → Turns site limits s number command.Blank [] s
  turns_blank s number w f = (true, [], (refl, refl, refl), f)

  pub turns_not_built : (s : Standing) (number : ℕ) → Turns site limits s number command.NotBuilt (not_built_text number) s
  turns_not_built s number w f = (true, [], (refl, refl, refl), f)

  pub turns_bad : (s : Standing) (number : ℕ) → Turns site limits s number command.Bad (bad_line_text number) s
  turns_bad s number w f = (true, [], (refl, refl, refl), f)

  -- the status of each machine whose press is so
  pub turns_status : (s : Standing) (number : ℕ) (tells : Status) → ((w : World) → press_of w ≡ s.press → status site w ≡ tells)
      → Turns site limits s number command.Status (status_text tells) s
  turns_status s number tells is w f = (true, [], (refl, refl, ap status_text (sym (is w f.press))), f)

  -- settling leaves the nodes, and the slot empty, and the log grows
  record Keeps (w v : World) : Type 0 where
    pub nodes : v.nodes ≡ w.nodes
    pub slot : fin.get w.slots 0 ≡ None → fin.get v.slots 0 ≡ None
    pub log : (more : List Bundle) × (w.log ++ more ≡ v.log)

  no_more : (log : List Bundle) → (more : List Bundle) × (log ++ more ≡ log)
  no_more log = ([], append-nil log)

  keeps_itself : (w : World) → Keeps w w
  keeps_itself w = record { nodes = refl; slot = λ none. none; log = no_more w.log }

  keeps_then : (w v u : World) → Keeps w v → Keeps v u → Keeps w u
  keeps_then w v u a b = record {
    nodes = b.nodes ∙ a.nodes;
    slot = λ none. b.slot (a.slot none);
    log = (a.log.0 ++ b.log.0, sym (append_assoc w.log a.log.0 b.log.0) ∙ ap (λ (log : List Bundle). log ++ b.log.0) a.log.1 ∙ b.log.1);
  }

  keeps_begin : (w : World) → Keeps w (step site limits w Begin)
  keeps_begin w = record { nodes = refl; slot = λ none. none; log = no_more w.log }

  keeps_join : (w : World) → Keeps w (step site limits w Join)
  keeps_join w = record { nodes = refl; slot = λ none. none; log = no_more w.log }

  keeps_finish : (w : World) → Keeps w (step site limits w Finish)
  keeps_finish w = record { nodes = refl; slot = λ none. none; log = no_more w.log }

  grows_by : (t : Target) (n : ℕ) (o : Option (List Path)) (w : World) → (more : List Bundle) × (w.log ++ more ≡ (published_by t n o w).log)
  grows_by t n None w = no_more w.log
  grows_by t n (Some paths) w = (_, refl)

  keeps_publish : (w : World) → Keeps w (step site limits w Publish)
  keeps_publish w = record { nodes = refl; slot = λ none. none; log = grows_by (target_of site w w.target) (version_of w.target) _ w }

  keeps_joins : (m : ℕ) (w : World) → Keeps w (fold (step site limits) w (joins m))
  keeps_joins zero w = keeps_itself w
  keeps_joins (suc m) w = keeps_then w (step site limits w Join) _ (keeps_join w) (keeps_joins m (step site limits w Join))

  keeps_publishes : (n : ℕ) (w : World) → Keeps w (fold (step site limits) w (publishes n))
  keeps_publishes zero w = keeps_itself w
  keeps_publishes (suc n) w = keeps_then w (step site limits w Publish) _ (keeps_publish w) (keeps_publishes n (step site limits w Publish))

  -- handing leaves the nodes and the log
  abbrev pub Stays : World → World → Type 0
  Stays w v = (v.nodes ≡ w.nodes) × (v.log ≡ w.log)

  same_log : (w v : World) → v.log ≡ w.log → (more : List Bundle) × (w.log ++ more ≡ v.log)
  same_log w v same = ([], append-nil w.log ∙ sym same)

  into_stays : (v : ℕ) (o : Option Obj) (w : World) → Stays w (into_slot 0 v o w)
  into_stays v None w = (refl, refl)
  into_stays v (Some o) w = (refl, refl)

  pub hand_stays : (w : World) → Stays w (step site limits w (Hand 0))
  hand_stays w = by_slot (fin.get w.slots 0) w.work
    where
      by_slot : (held : Option Slot) (work : Option Work) → Stays w (handed site 0 work held w)
      by_slot (Some held) work = (refl, refl)
      by_slot None None = (refl, refl)
      by_slot None (Some work) =
          let r : Option Obj × Press = hand_step site (Some work) w.target (press_of w) in
          into_stays work.version r.0 (with_press r.1 w)

  -- and where it is put back at once, the slot is empty
  pub put_empties : (w : World) → Stays w (step site limits w (Put 0)) × (fin.get (step site limits w (Put 0)).slots 0 ≡ None)
  put_empties w = by_slot (fin.get w.slots 0) refl
    where
      by_slot : (held : Option Slot) → fin.get w.slots 0 ≡ held → Stays w (put_from site 0 held w) × (fin.get (put_from site 0 held w).slots 0 ≡ None)
      by_slot None is = ((refl, refl), is)
      by_slot (Some held) is = ((refl, refl), fin.get-remove nat_cmp_total w.slots 0 0)

  keeps_hands : (k : ℕ) (w : World) → Keeps w (fold (step site limits) w (hands k))
  keeps_hands zero w = keeps_itself w
  keeps_hands (suc k) w =
      let first : World = step site limits w (Hand 0) in
      let put = put_empties first in
      let hand = hand_stays w in
      let one : Keeps w (step site limits first (Put 0)) =
      record { nodes = put.0.0 ∙ hand.0; slot = λ none. put.1; log = same_log w (step site limits first (Put 0)) (put.0.1 ∙ hand.1) } in
      keeps_then w (step site limits first (Put 0)) _ one (keeps_hands k (step site limits first (Put 0)))

  -- a hand that finds none leaves the slot
  keeps_last : (w : World) → LastTold (step site limits w (Hand 0)) NoneWaits → Keeps w (step site limits w (Hand 0))
  keeps_last w tells = record { nodes = (hand_stays w).0; slot = λ none. by_work none w.work refl; log = same_log w (step site limits w (Hand 0)) (hand_stays w).1 }
    where
      by_none : (none : fin.get w.slots 0 ≡ None) (work : Work) (o : Option Obj) (p : Press) → step site limits w (Hand 0) ≡ into_slot 0 work.version o (with_press p w) → fin.get (step site limits w (Hand 0)).slots 0 ≡ None
      by_none none work None p is = ap (λ (u : World). fin.get u.slots 0) is ∙ none
      by_none none work (Some o) p is =
          let e : Handed o ≡ NoneWaits = told_once (step site limits w (Hand 0)) (Handed o) NoneWaits (w.replies, ap (λ (u : World). u.replies) is) tells in
          absurd (cc)

      by_work : (none : fin.get w.slots 0 ≡ None) (work : Option Work) → w.work ≡ work → fin.get (step site limits w (Hand 0)).slots 0 ≡ None
      by_work none None is = ap (λ (u : World). fin.get u.slots 0) ((λ i. handed site 0 (is i) (none i) w)) ∙ none
      by_work none (Some work) is =
          let r : Option Obj × Press = hand_step site (Some work) w.target (press_of w) in
          by_none none work r.0 r.1 (λ i. handed site 0 (is i) (none i) w)

  keeps_handing : (k : ℕ) (w : World) → LastTold (fold (step site limits) w (handing k)) NoneWaits → Keeps w (fold (step site limits) w (handing k))
  keeps_handing k w tells =
      let goes : fold (step site limits) w (handing k) ≡ step site limits (fold (step site limits) w (hands k)) (Hand 0) = fold-append (step site limits) w (hands k) (Hand 0 ∷ []) in
      subst (Keeps w) (sym goes) (keeps_then w (fold (step site limits) w (hands k)) _ (keeps_hands k w)
      (keeps_last (fold (step site limits) w (hands k)) (subst (λ (u : World). LastTold u NoneWaits) goes tells)))

  keeps_joining : (m : ℕ) (w : World) → Keeps w (fold (step site limits) w (joining m))
  keeps_joining m w =
      subst (Keeps w) (sym (fold-append (step site limits) w (joins m) (Join ∷ [])))
      (keeps_then w (fold (step site limits) w (joins m)) _ (keeps_joins m w) (keeps_join (fold (step site limits) w (joins m))))

  keeps_publishing : (n : ℕ) (w : World) → Keeps w (fold (step site limits) w (publishing n))
  keeps_publishing n w =
      subst (Keeps w) (sym (fold-append (step site limits) w (publishes n) (Publish ∷ [])))
      (keeps_then w (fold (step site limits) w (publishes n)) _ (keeps_publishes n w) (keeps_publish (fold (step site limits) w (publishes n))))

  keeps_settling : (k m : ℕ) (w : World) → LastTold (fold (step site limits) (step site limits w Begin) (handing k)) NoneWaits → Keeps w (fold (step site limits) w (settling k m))
  keeps_settling k m w tells =
      let first : World = step site limits w Begin in
      let second : World = fold (step site limits) first (handing k) in
      let third : World = fold (step site limits) second (joining m) in
      let goes : fold (step site limits) w (settling k m) ≡ step site limits third Finish =
      fold-append (step site limits) first (handing k) (joining m ++ Finish ∷ []) ∙ fold-append (step site limits) second (joining m) (Finish ∷ []) in
      subst (Keeps w) (sym goes)
      (keeps_then w first _ (keeps_begin w) (keeps_then first second _ (keeps_handing k first tells) (keeps_then second third _ (keeps_joining m second) (keeps_finish third))))

  settles_keep : (w : World) (events : List Event) (counts : Counts) → Settles site limits w events counts → Keeps w (fold (step site limits) w events)
  settles_keep w _ _ (by_work k m n counts worked report published) =
      let mid : World = fold (step site limits) w (settling k m) in
      subst (Keeps w) (sym (fold-append (step site limits) w (settling k m) (publishing n)))
      (keeps_then w mid _ (keeps_settling k m w worked.handed.0) (keeps_publishing n mid))
  settles_keep w _ _ (at_once v n tells published) = keeps_then w (step site limits w Begin) _ (keeps_begin w) (keeps_publishing n (step site limits w Begin))

  -- the log of a settle begins with the log before it
  pub settles_grow : (w : World) (events : List Event) (counts : Counts) → Settles site limits w events counts → (more : List Bundle) × (w.log ++ more ≡ (fold (step site limits) w events).log)
  settles_grow w events counts settles = (settles_keep w events counts settles).log

  -- a settle that leads to this press
  abbrev pub SettlesTo : World → Counts → Press → Type 0
  SettlesTo w counts new = (events : List Event) × Settles site limits w events counts × (press_of (fold (step site limits) w events) ≡ new)

  pub turns_settle : (s : Standing) (new : Press) (number : ℕ) (out : Word)
      → ((w : World) → press_of w ≡ s.press → fin.get w.slots 0 ≡ None
      → (counts : Counts) × (out ≡ settled_text (length new.log) (length new.log - length s.press.log) counts) × SettlesTo w counts new)
      → Turns site limits s number command.Settle out (record s { press = new })
  turns_settle s new number out settles w f =
      let h = settles w f.press f.slot in
      let counts : Counts = h.0 in
      let events : List Event = h.2.0 in
      let after : World = fold (step site limits) w events in
      let keeps : Keeps w after = settles_keep w events counts h.2.1 in (
        true,
        events,
        (
          refl,
          (
            counts,
            h.2.1,
            h.1
                ∙ ap (λ (p : Press). settled_text (length p.log) (length p.log - length s.press.log) counts) (sym h.2.2)
                ∙ ap (λ (p : Press). settled_text (length after.log) (length after.log - length p.log) counts) (sym f.press),
          ),
        ),
        record {
          press = h.2.2;
          slot = keeps.slot f.slot;
          nodes = λ n. ap (λ (m : fin.FinMap nat_cmp Cache). fin.get m n) keeps.nodes ∙ f.nodes n;
        },
      )

  -- commands, one after another
  pub plays_nothing : (s : Standing) (number : ℕ) (last : Word) → PlaysFrom site limits s number [] last last
  plays_nothing s number last before f = ([], refl)

  pub plays_turn : (s t : Standing) (number : ℕ) (c : Command) (cs : List Command) (last said more : Word) → Turns site limits s (number + 1) c said t
      → PlaysFrom site limits t (number + 1) cs last more → PlaysFrom site limits s number (c ∷ cs) last (said ++ more)
  plays_turn s t number c cs last said more turns plays before f =
      let turn = turns (run site limits before) f in
      let behind : run site limits (before ++ turn.1) ≡ fold (step site limits) (run site limits before) turn.1 = fold-append (step site limits) first_world before turn.1 in
      let rest = plays (before ++ turn.1) (subst (StandsAs t) (sym behind) turn.3) in
      (turn.0 ∷ rest.0, (turn.1, (said, (more, turn.2, refl, rest.1))))
