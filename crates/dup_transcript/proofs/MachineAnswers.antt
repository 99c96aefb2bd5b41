-- The machine answers each list of commands, and in one way.
use Rattle.std.proofs.Common.{◌≡◌, ℕ, zero, suc, ◌+◌, ◌-◌, inl, inr, Bool, true, false, not, List, [], ◌∷◌, ◌++◌, length, drop, take, refl, sym, ap, subst, ◌∙◌}
use Rattle.std.specs.Option.{option_map}
use Rattle.std.specs.Prelude.{◌||◌, Option, Some, None, bytes_eq, is_some}
use Rattle.std.specs.List.{filter, fold, list_any}
use Rattle.std.specs.FinMap as fin
use Rattle.std.specs.Ordering.{nat_cmp}
use Rattle.std.proofs.Math.Seq.{take-length}
use Rattle.std.proofs.lemmas.Bool.{true≢false}
use Rattle.std.proofs.lemmas.List.{append_cancel_left}
use Rattle.std.proofs.lemmas.List.Sums.{fold-append}
use Rattle.dup_names.specs.Words.{Word, Path}
use Rattle.dup_template.specs.declared.site.Parts.{Parts}
use Rattle.dup_model.specs.Answers.{answer}
use Rattle.dup_model.specs.Bundles.{bundle}
use Rattle.dup_model.specs.Caches.{Cache, catch_up}
use Rattle.dup_model.specs.declared.mode.Mode.{Mode}
use Rattle.dup_transcript.specs.Commands.{Command}
use Rattle.dup_model.specs.Commits.{Commit, Refusal}
use Rattle.dup_model.specs.Content.{start}
use Rattle.dup_model.specs.Editions.{Bundle, bundle_of, edition, history, looks, target_looks}
use Rattle.dup_model.specs.GoodSites.{HistoriesEmbedEarlier}
use Rattle.dup_model.proofs.Histories.{fits_unless_refused, history_push}
use Rattle.std.proofs.lemmas.Option.{none-some}
use Rattle.dup_model.specs.Journal.{Limits, commit_refusal, unless_refused}
use Rattle.dup_transcript.specs.MachinePlays.{CommandsLeaveReady, Happens, IsReady, IsSaid, PlaysAreOne, PlaysBy, PlaysExist, PlaysTellKept, SettlesLeaveNothing, StandsFor, StartsReady, all_kept, tells_kept}
use Rattle.dup_machine.specs.Settle.Settles.{at_once, by_work}
use Rattle.dup_machine.specs.Until.{LastTold}
use Rattle.dup_model.specs.Needs.{changed}
use Rattle.dup_machine.specs.Nodes.{delivered, evicted, node_made, requested, with_node}
use Rattle.dup_model.specs.Pages.{Target, live}
use Rattle.dup_machine.specs.Press.{published_by, target_of}
use Rattle.dup_machine.specs.Presses.{commit_told, version_of}
use Rattle.dup_machine.specs.Run.{run, step}
use Rattle.dup_machine.specs.Status.{NothingPending, is_of, status}
use Rattle.dup_machine.specs.Settle.{IsSettled, Settles, counts_of, publishes, publishing, settling}
use Rattle.dup_transcript.specs.Texts.{bad_feed_text, bad_line_text, not_built_text, settled_text, status_text, told_text}
use Rattle.dup_model.specs.Versions.{IsHistory, content, target_content}
use Rattle.dup_model.specs.Pages.{target_at}
use Rattle.dup_machine.specs.World.{Counts, Event, Told, World, answered, first_world, told}
use Rattle.dup_machine.specs.World.Begun.{Nothing}
use Rattle.dup_machine.specs.World.Ended.{Report}
use Rattle.dup_machine.specs.World.Event.{Begin, Comes, Deliver, Evict, Node, Publish, Request}
use Rattle.dup_machine.specs.World.Told.{Begins, Delivered, Evicted, Finished, NodeMade, NodeTaken, NoNode, NothingChanged, Published}
use Rattle.dup_transcript.specs.declared.command.Command.TheVariants as command
use Rattle.dup_model.proofs.BundleFacts.{bundle_is_none}
use Rattle.dup_machine.proofs.Pending.{last_target}
use Rattle.dup_machine.proofs.Ending.{settle_ends}
use Rattle.dup_machine.proofs.LastReply.{told_once}
use Rattle.dup_transcript.proofs.Unkept.{texts_differ, unkept_is_free}
use Rattle.dup_transcript.proofs.Reports.{begins_nothing, none_worked, nothing_new, report_is, settle_counts, target_case}
use Rattle.dup_machine.proofs.NothingDone.{nothing_is_done}

-- two states that differ in their replies and slots alone
pub record Alike (v u : World) : Type 0 where
  pub commits : v.commits ≡ u.commits
  pub target : v.target ≡ u.target
  pub work : v.work ≡ u.work
  pub log : v.log ≡ u.log
  pub nodes : v.nodes ≡ u.nodes

alike_itself : (v : World) → Alike v v
alike_itself v = record { commits = refl; target = refl; work = refl; log = refl; nodes = refl }

alike_then : (v u x : World) → Alike v u → Alike u x → Alike v x
alike_then v u x a b = record {
  commits = a.commits ∙ b.commits;
  target = a.target ∙ b.target;
  work = a.work ∙ b.work;
  log = a.log ∙ b.log;
  nodes = a.nodes ∙ b.nodes;
}

alike_back : (v u : World) → Alike v u → Alike u v
alike_back v u a = record { commits = sym a.commits; target = sym a.target; work = sym a.work; log = sym a.log; nodes = sym a.nodes }

between : {v u w x : World} → v ≡ u → w ≡ x → Alike u x → Alike v w
between {v} {u} {w} {x} first second a = subst (λ y. Alike y w) (sym first) (subst (Alike u) (sym second) a)

module _ (site : Parts) (limits : Limits) where
  same_target : (v u : World) → Alike v u → target_of site v v.target ≡ target_of site u u.target
  same_target v u a = by_version v.target ∙ ap (target_of site u) a.target
    where
      by_version : (t : Option ℕ) → target_of site v t ≡ target_of site u t
      by_version None = refl
      by_version (Some i) = ap (λ (cs : List Commit). target_at site cs i) a.commits

  abbrev next_of : World → Option (List Path)
  next_of w = bundle (edition w.log) (target_of site w w.target)

  same_next : (v u : World) → Alike v u → next_of v ≡ next_of u
  same_next v u a = λ i. bundle (edition (a.log i)) (same_target v u a i)

  same_status : (v u : World) → Alike v u → status site v ≡ status site u
  same_status v u a = λ i. record {
    version = length (a.commits i);
    work = option_map (λ work. work.version) (a.work i);
    target = a.target i;
    edition = length (a.log i);
    pending = is_some (a.work i) || not (is_of (length (a.commits i)) (a.target i)) || is_some (same_next v u a i);
  }

  -- publishing

  published_alike : (t : Target) (n : ℕ) (o : Option (List Path)) (v u : World) → Alike v u → Alike (published_by t n o v) (published_by t n o u)
  published_alike t n None v u a = record { commits = a.commits; target = a.target; work = a.work; log = a.log; nodes = a.nodes }
  published_alike t n (Some paths) v u a = record {
    commits = a.commits;
    target = a.target;
    work = a.work;
    log = λ i. a.log i ++ bundle_of t n (drop (length (history (a.log i))) (take n (a.commits i))) paths ∷ [];
    nodes = a.nodes;
  }

  publish_alike : (v u : World) → Alike v u → Alike (step site limits v Publish) (step site limits u Publish)
  publish_alike v u a =
      let goes : step site limits v Publish ≡ published_by (target_of site u u.target) (version_of u.target) (next_of u) v =
      λ i. published_by (same_target v u a i) (version_of (a.target i)) (same_next v u a i) v in
      subst (λ x. Alike x (step site limits u Publish)) (sym goes) (published_alike (target_of site u u.target) (version_of u.target) (next_of u) v u a)

  published_ready : (t : Target) (n : ℕ) (o : Option (List Path)) (w : World) → IsReady site w → IsReady site (published_by t n o w)
  published_ready t n None w r = record { idle = r.idle; slot = r.slot; allowed = r.allowed }
  published_ready t n (Some paths) w r = record { idle = r.idle; slot = r.slot; allowed = r.allowed }

  publishes_ready : (n : ℕ) (w : World) → IsReady site w → IsReady site (fold (step site limits) w (publishes n))
  publishes_ready zero w r = r
  publishes_ready (suc n) w r = publishes_ready n (step site limits w Publish) (published_ready (target_of site w w.target) (version_of w.target) (next_of w) w r)

  -- nothing is changed
  abbrev IsDone : World → Type 0
  IsDone w = next_of w ≡ None

  done_goes : (w : World) → IsDone w → step site limits w Publish ≡ told NothingChanged w
  done_goes w done = ap (λ (o : Option (List Path)). published_by (target_of site w w.target) (version_of w.target) o w) done

  done_told : (w : World) → LastTold (step site limits w Publish) NothingChanged → IsDone w
  done_told w tells = by_next (next_of w) refl
    where
      by_next : (o : Option (List Path)) → next_of w ≡ o → o ≡ None
      by_next None is = refl
      by_next (Some paths) is =
          let b : Bundle = bundle_of (target_of site w w.target) (version_of w.target) (drop (length (history w.log)) (take (version_of w.target) w.commits)) paths in
          let goes : step site limits w Publish ≡ published_by (target_of site w w.target) (version_of w.target) (Some paths) w =
          ap (λ (o : Option (List Path)). published_by (target_of site w w.target) (version_of w.target) o w) is in
          let e : Published (length w.log + 1) (version_of w.target) (length b.puts) (length b.drops) ≡ NothingChanged =
          told_once (step site limits w Publish) (Published (length w.log + 1) (version_of w.target) (length b.puts) (length b.drops)) NothingChanged (w.replies, ap (λ u. u.replies) goes) tells in
          absurd (cc)

  done_after : (w : World) → LastTold (step site limits w Publish) NothingChanged → IsDone (step site limits w Publish)
  done_after w tells = subst IsDone (sym (done_goes w (done_told w tells))) (done_same w (told NothingChanged w) (record { commits = refl; target = refl; work = refl; log = refl; nodes = refl }) (done_told w tells))
    where
      done_same : (v u : World) → Alike v u → IsDone v → IsDone u
      done_same v u a done = sym (same_next v u a) ∙ done

  stays : (n : ℕ) (w : World) → IsDone w → Alike w (fold (step site limits) w (publishes n))
  stays zero w done = alike_itself w
  stays (suc n) w done =
      let a : Alike w (step site limits w Publish) = subst (Alike w) (sym (done_goes w done)) (record { commits = refl; target = refl; work = refl; log = refl; nodes = refl }) in
      alike_then w (step site limits w Publish) (fold (step site limits) (step site limits w Publish) (publishes n)) a
      (stays n (step site limits w Publish) (sym (same_next w (step site limits w Publish) a) ∙ done))

  -- however often it is published, until nothing is changed
  publishes_same : (n m : ℕ) (v u : World) → Alike v u → (LastTold v NothingChanged → IsDone v) → (LastTold u NothingChanged → IsDone u)
      → LastTold (fold (step site limits) v (publishes n)) NothingChanged → LastTold (fold (step site limits) u (publishes m)) NothingChanged
      → Alike (fold (step site limits) v (publishes n)) (fold (step site limits) u (publishes m))
  publishes_same zero m v u a first second one two =
      alike_then v u (fold (step site limits) u (publishes m)) a (stays m u (sym (same_next v u a) ∙ first one))
  publishes_same (suc n) zero v u a first second one two =
      alike_then (fold (step site limits) v (publishes (suc n))) v u (alike_back v (fold (step site limits) v (publishes (suc n))) (stays (suc n) v (same_next v u a ∙ second two))) a
  publishes_same (suc n) (suc m) v u a first second one two =
      publishes_same n m (step site limits v Publish) (step site limits u Publish) (publish_alike v u a) (done_after v) (done_after u) one two

  publishes_snoc : (n : ℕ) (w : World) → fold (step site limits) w (publishes (suc n)) ≡ step site limits (fold (step site limits) w (publishes n)) Publish
  publishes_snoc zero w = refl
  publishes_snoc (suc n) w = publishes_snoc n (step site limits w Publish)

  -- so many bundles and one publish more are so many publishes
  publishing_is : (n : ℕ) → publishing n ≡ publishes (suc n)
  publishing_is zero = refl
  publishing_is (suc n) = ap (λ events. Publish ∷ events) (publishing_is n)

  -- what a settle comes to, before it publishes, and what it publishes
  record Outcome (w : World) (events : List Event) (counts : Counts) : Type 0 where
    pub before : World
    pub commits : before.commits ≡ w.commits
    pub target : before.target ≡ Some (length w.commits)
    pub ready : IsReady site before
    pub log : before.log ≡ w.log
    pub nodes : before.nodes ≡ w.nodes
    pub unpublished : LastTold before NothingChanged → ⊥
    pub count : ℕ
    pub ends : fold (step site limits) w events ≡ fold (step site limits) before (publishes count)
    pub last : LastTold (fold (step site limits) before (publishes count)) NothingChanged
    pub counted : counts ≡ counts_of (target_content site w.commits w.target) (content site w.commits) (length w.commits)

  module _ (earlier : HistoriesEmbedEarlier site) where
    settle_comes : (w : World) (events : List Event) (counts : Counts) → IsReady site w → Settles site limits w events counts → Outcome w events counts
    settle_comes w _ _ r (by_work k m n counts worked report published) = elim (target_case w.target (length w.commits)) [
      | inl new ↦ absurd (none_worked site limits w (earlier w.commits r.allowed) r.idle r.slot k m new worked)
      | inr other ↦
          let is : IsSettled w (settle_counts site limits w (earlier w.commits r.allowed) r.idle r.slot) (fold (step site limits) w (settling k m)) × (counts ≡ settle_counts site limits w (earlier w.commits r.allowed) r.idle r.slot) =
          report_is site limits w (earlier w.commits r.allowed) r.idle r.slot k m counts other worked report in
          let goes : fold (step site limits) w (settling k m ++ publishing n) ≡ fold (step site limits) (fold (step site limits) w (settling k m)) (publishes (suc n)) =
          fold-append (step site limits) w (settling k m) (publishing n) ∙ ap (fold (step site limits) (fold (step site limits) w (settling k m))) (publishing_is n) in
          record {
            before = fold (step site limits) w (settling k m);
            commits = is.0.commits;
            target = is.0.target;
            ready = record { idle = is.0.idle; slot = is.0.slot; allowed = subst (IsHistory site) (sym is.0.commits) r.allowed };
            log = is.0.log;
            nodes = is.0.nodes;
            unpublished = λ tells. absurd (let e : Finished (Report counts) ≡ NothingChanged = told_once (fold (step site limits) w (settling k m)) (Finished (Report counts)) NothingChanged report tells in cc);
            count = suc n;
            ends = goes;
            last = subst (λ events. LastTold (fold (step site limits) (fold (step site limits) w (settling k m)) events) NothingChanged) (publishing_is n) published.0;
            counted = is.1;
          }
    ]
    settle_comes w _ _ r (at_once v n tells published) =
        let new : (w.target ≡ Some (length w.commits)) × (v ≡ length w.commits) = nothing_new site limits w (earlier w.commits r.allowed) r.idle r.slot v tells in
        let goes : step site limits w Begin ≡ told (Begins (Nothing (length w.commits))) w = begins_nothing site limits w (earlier w.commits r.allowed) r.idle r.slot new.0 in
        record {
          before = step site limits w Begin;
          commits = ap (λ u. u.commits) goes;
          target = ap (λ u. u.target) goes ∙ new.0;
          ready = subst (IsReady site) (sym goes) (record { idle = r.idle; slot = r.slot; allowed = r.allowed });
          log = ap (λ u. u.log) goes;
          nodes = ap (λ u. u.nodes) goes;
          unpublished = λ more. absurd (let e : Begins (Nothing v) ≡ NothingChanged = told_once (step site limits w Begin) (Begins (Nothing v)) NothingChanged tells more in cc);
          count = suc n;
          ends = ap (fold (step site limits) (step site limits w Begin)) (publishing_is n);
          last = subst (λ events. LastTold (fold (step site limits) (step site limits w Begin) events) NothingChanged) (publishing_is n) published.0;
          counted = (λ i. record { version = new.1 i; expanded = 0; joined = 0; kept = length (live (content site w.commits)) })
              ∙ sym (ap (λ (t : Option ℕ). counts_of (target_content site w.commits t) (content site w.commits) (length w.commits)) new.0
              ∙ ap (λ (cs : List Commit). counts_of (Some (content site cs)) (content site w.commits) (length w.commits)) (take-length w.commits)
              ∙ nothing_is_done (content site w.commits) (length w.commits));
        }

    -- two turns of one command
    record SameTurn (w x : World) (a b : List Event) (said heard : Word) : Type 0 where
      pub texts : said ≡ heard
      pub alike : Alike (fold (step site limits) w a) (fold (step site limits) x b)
      pub ready : IsReady site (fold (step site limits) w a)
      pub ready_too : IsReady site (fold (step site limits) x b)

    settles_same : (w x : World) (a b : List Event) (counts found : Counts) → Alike w x → IsReady site w → IsReady site x → Settles site limits w a counts → Settles site limits x b found
        → (counts ≡ found) × Alike (fold (step site limits) w a) (fold (step site limits) x b) × IsReady site (fold (step site limits) w a) × IsReady site (fold (step site limits) x b)
    settles_same w x a b counts found alike r q one two =
        let h : Outcome w a counts = settle_comes w a counts r one in
        let k : Outcome x b found = settle_comes x b found q two in
        let before : Alike h.before k.before = record {
          commits = h.commits ∙ alike.commits ∙ sym k.commits;
          target = h.target ∙ ap (λ (cs : List Commit). Some (length cs)) alike.commits ∙ sym k.target;
          work = h.ready.idle ∙ sym k.ready.idle;
          log = h.log ∙ alike.log ∙ sym k.log;
          nodes = h.nodes ∙ alike.nodes ∙ sym k.nodes;
        } in
        let after : Alike (fold (step site limits) h.before (publishes h.count)) (fold (step site limits) k.before (publishes k.count)) =
        publishes_same h.count k.count h.before k.before before (λ tells. absurd (h.unpublished tells)) (λ tells. absurd (k.unpublished tells)) h.last k.last in (
          h.counted ∙ (λ i. counts_of (target_content site (alike.commits i) (alike.target i)) (content site (alike.commits i)) (length (alike.commits i))) ∙ sym k.counted,
          subst (λ v. Alike v (fold (step site limits) x b)) (sym h.ends) (subst (Alike (fold (step site limits) h.before (publishes h.count))) (sym k.ends) after),
          subst (IsReady site) (sym h.ends) (publishes_ready h.count h.before h.ready),
          subst (IsReady site) (sym k.ends) (publishes_ready k.count k.before k.ready),
        )

    -- whether such an event is told that its page is kept is free for a request alone
    abbrev CanKeep : Event → Type 0
    CanKeep (Request node pass path kept) = kept ≡ true
    CanKeep _ = Unit {0}

    -- an event that is answered alike
    record SameStep (w x : World) (event : Event) : Type 0 where
      pub reply : Told
      pub tells : LastTold (step site limits w event) reply
      pub tells_too : LastTold (step site limits x event) reply
      pub keeps : CanKeep event → tells_kept reply ≡ true
      pub alike : Alike (step site limits w event) (step site limits x event)
      pub ready : IsReady site (step site limits w event)
      pub ready_too : IsReady site (step site limits x event)

    allowed_then : (w : World) (commit : Commit) → IsHistory site w.commits → IsHistory site (unless_refused w.commits commit (commit_refusal site limits w.commits commit))
    allowed_then w commit allowed = by_refusal (commit_refusal site limits w.commits commit) refl
      where
        by_refusal : (why : Option Refusal) → commit_refusal site limits w.commits commit ≡ why → IsHistory site (unless_refused w.commits commit why)
        by_refusal None is = history_push site w.commits commit (fits_unless_refused site limits w.commits commit is) allowed
        by_refusal (Some why) is = allowed

    commit_same : (w x : World) (commit : Commit) → Alike w x → IsReady site w → IsReady site x → SameStep w x (Comes commit)
    commit_same w x commit a r q =
        record {
          reply = commit_told w.commits (commit_refusal site limits w.commits commit);
          tells = (w.replies, refl);
          tells_too = (x.replies, ap (λ (cs : List Commit). x.replies ++ commit_told cs (commit_refusal site limits cs commit) ∷ []) (sym a.commits));
          keeps = λ can. by_refusal (commit_refusal site limits w.commits commit);
          alike = record {
            commits = ap (λ (cs : List Commit). unless_refused cs commit (commit_refusal site limits cs commit)) a.commits;
            target = a.target;
            work = a.work;
            log = a.log;
            nodes = a.nodes;
          };
          ready = record { idle = r.idle; slot = r.slot; allowed = allowed_then w commit r.allowed };
          ready_too = record { idle = q.idle; slot = q.slot; allowed = allowed_then x commit q.allowed };
        }
      where
        by_refusal : (why : Option Refusal) → tells_kept (commit_told w.commits why) ≡ true
        by_refusal None = refl
        by_refusal (Some why) = refl

    -- a reply by itself, and one with a new cache of a node
    told_same : (w x : World) (event : Event) (reply : Told) → Alike w x → IsReady site w → IsReady site x → (CanKeep event → tells_kept reply ≡ true)
        → step site limits w event ≡ told reply w → step site limits x event ≡ told reply x → SameStep w x event
    told_same w x event reply a r q keeps first second = record {
      reply = reply;
      tells = (w.replies, ap (λ u. u.replies) first);
      tells_too = (x.replies, ap (λ u. u.replies) second);
      keeps = keeps;
      alike = between first second (record { commits = a.commits; target = a.target; work = a.work; log = a.log; nodes = a.nodes });
      ready = subst (IsReady site) (sym first) (record { idle = r.idle; slot = r.slot; allowed = r.allowed });
      ready_too = subst (IsReady site) (sym second) (record { idle = q.idle; slot = q.slot; allowed = q.allowed });
    }

    cached_same : (w x : World) (event : Event) (reply : Told) (number : ℕ) (cache : Cache) → Alike w x → IsReady site w → IsReady site x → (CanKeep event → tells_kept reply ≡ true)
        → step site limits w event ≡ told reply (with_node number cache w) → step site limits x event ≡ told reply (with_node number cache x) → SameStep w x event
    cached_same w x event reply number cache a r q keeps first second = record {
      reply = reply;
      tells = (w.replies, ap (λ u. u.replies) first);
      tells_too = (x.replies, ap (λ u. u.replies) second);
      keeps = keeps;
      alike = between first second (record {
        commits = a.commits;
        target = a.target;
        work = a.work;
        log = a.log;
        nodes = ap (λ (m : fin.FinMap nat_cmp Cache). fin.insert m number cache) a.nodes;
      });
      ready = subst (IsReady site) (sym first) (record { idle = r.idle; slot = r.slot; allowed = r.allowed });
      ready_too = subst (IsReady site) (sym second) (record { idle = q.idle; slot = q.slot; allowed = q.allowed });
    }

    -- the same node has the same cache
    there : (w x : World) (number : ℕ) (o : Option Cache) → Alike w x → fin.get w.nodes number ≡ o → fin.get x.nodes number ≡ o
    there w x number o a is = ap (λ (m : fin.FinMap nat_cmp Cache). fin.get m number) (sym a.nodes) ∙ is

    node_same : (w x : World) (number capacity : ℕ) (mode : Mode) → Alike w x → IsReady site w → IsReady site x → SameStep w x (Node number capacity mode)
    node_same w x number capacity mode a r q = by_node (fin.get w.nodes number) refl
      where
        by_node : (o : Option Cache) → fin.get w.nodes number ≡ o → SameStep w x (Node number capacity mode)
        by_node (Some cache) is =
            told_same w x (Node number capacity mode) (NodeTaken number) a r q (λ can. refl)
            (ap (λ (o : Option Cache). node_made number capacity mode o w) is) (ap (λ (o : Option Cache). node_made number capacity mode o x) (there w x number (Some cache) a is))
        by_node None is =
            cached_same w x (Node number capacity mode) (NodeMade number) number (record { capacity = capacity; mode = mode; number = 0; entries = [] }) a r q (λ can. refl)
            (ap (λ (o : Option Cache). node_made number capacity mode o w) is) (ap (λ (o : Option Cache). node_made number capacity mode o x) (there w x number None a is))

    deliver_same : (w x : World) (number : ℕ) → Alike w x → IsReady site w → IsReady site x → SameStep w x (Deliver number)
    deliver_same w x number a r q = by_node (fin.get w.nodes number) refl
      where
        by_node : (o : Option Cache) → fin.get w.nodes number ≡ o → SameStep w x (Deliver number)
        by_node None is =
            told_same w x (Deliver number) (NoNode number) a r q (λ can. refl)
            (ap (λ (o : Option Cache). delivered number o w) is) (ap (λ (o : Option Cache). delivered number o x) (there w x number None a is))
        by_node (Some cache) is =
            let new : Cache = catch_up w.log cache in
            cached_same w x (Deliver number) (Delivered number new.number (length new.entries)) number new a r q (λ can. refl)
            (ap (λ (o : Option Cache). delivered number o w) is)
            (ap (λ (o : Option Cache). delivered number o x) (there w x number (Some cache) a is)
            ∙ ap (λ (log : List Bundle). told (Delivered number (catch_up log cache).number (length (catch_up log cache).entries)) (with_node number (catch_up log cache) x)) (sym a.log))

    request_same : (w x : World) (number pass : ℕ) (path : Path) (kept : Bool) → Alike w x → IsReady site w → IsReady site x → SameStep w x (Request number pass path kept)
    request_same w x number pass path kept a r q = by_node (fin.get w.nodes number) refl
      where
        by_node : (o : Option Cache) → fin.get w.nodes number ≡ o → SameStep w x (Request number pass path kept)
        by_node None is =
            told_same w x (Request number pass path kept) (NoNode number) a r q (λ can. refl)
            (ap (λ (o : Option Cache). requested number pass path kept o w) is) (ap (λ (o : Option Cache). requested number pass path kept o x) (there w x number None a is))
        by_node (Some cache) is =
            cached_same w x (Request number pass path kept) (answered (answer cache w.log pass path kept).reply) number (answer cache w.log pass path kept).cache a r q
            (λ can. ap (λ (k : Bool). tells_kept (answered (answer cache w.log pass path k).reply)) can ∙ (unkept_is_free w.log cache pass path).0)
            (ap (λ (o : Option Cache). requested number pass path kept o w) is)
            (ap (λ (o : Option Cache). requested number pass path kept o x) (there w x number (Some cache) a is)
            ∙ ap (λ (log : List Bundle). told (answered (answer cache log pass path kept).reply) (with_node number (answer cache log pass path kept).cache x)) (sym a.log))

    evict_same : (w x : World) (number : ℕ) (path : Path) → Alike w x → IsReady site w → IsReady site x → SameStep w x (Evict number path)
    evict_same w x number path a r q = by_node (fin.get w.nodes number) refl
      where
        by_node : (o : Option Cache) → fin.get w.nodes number ≡ o → SameStep w x (Evict number path)
        by_node None is =
            told_same w x (Evict number path) (NoNode number) a r q (λ can. refl)
            (ap (λ (o : Option Cache). evicted number path o w) is) (ap (λ (o : Option Cache). evicted number path o x) (there w x number None a is))
        by_node (Some cache) is =
            cached_same w x (Evict number path) (Evicted (list_any (λ page. bytes_eq page.path path) cache.entries)) number
            (record cache { entries = filter (λ page. not (bytes_eq page.path path)) cache.entries }) a r q (λ can. refl)
            (ap (λ (o : Option Cache). evicted number path o w) is) (ap (λ (o : Option Cache). evicted number path o x) (there w x number (Some cache) a is))

    event_same : (w x : World) (event : Event) (kept : Bool) (a b : List Event) (said heard : Word) → SameStep w x event → Happens site limits w event kept a said → Happens site limits x event kept b heard
        → SameTurn w x a b said heard
    event_same w x event kept a b said heard same one two =
        let first : one.1.0 ≡ same.reply = told_once (step site limits w event) one.1.0 same.reply one.1.1 same.tells in
        let second : two.1.0 ≡ same.reply = told_once (step site limits x event) two.1.0 same.reply two.1.1 same.tells_too in
        subst (λ (l : List Event). SameTurn w x l b said heard) (sym one.0) (subst (λ (l : List Event). SameTurn w x (event ∷ []) l said heard) (sym two.0)
        (record { texts = one.1.3 ∙ ap told_text (first ∙ sym second) ∙ sym two.1.3; alike = same.alike; ready = same.ready; ready_too = same.ready_too }))

    nothing_same : (w x : World) (kept : Bool) (a b : List Event) (said heard text : Word) → Alike w x → IsReady site w → IsReady site x → IsSaid text kept a said → IsSaid text kept b heard → SameTurn w x a b said heard
    nothing_same w x kept a b said heard text alike r q one two =
        subst (λ (l : List Event). SameTurn w x l b said heard) (sym one.1) (subst (λ (l : List Event). SameTurn w x [] l said heard) (sym two.1)
        (record { texts = one.2 ∙ sym two.2; alike = alike; ready = r; ready_too = q }))

    turn_same : (w x : World) (number : ℕ) (c : Command) (kept : Bool) (a b : List Event) (said heard : Word) → Alike w x → IsReady site w → IsReady site x
        → StandsFor site limits w number c kept a said → StandsFor site limits x number c kept b heard → SameTurn w x a b said heard
    turn_same w x number (command.Commit commit) kept a b said heard alike r q one two = event_same w x (Comes commit) kept a b said heard (commit_same w x commit alike r q) one two
    turn_same w x number command.Settle kept a b said heard alike r q one two =
        let s = settles_same w x a b one.1.0 two.1.0 alike r q one.1.1 two.1.1 in
        record {
          texts = one.1.2
              ∙ (λ i. settled_text (length (s.1.log i)) (length (s.1.log i) - length (alike.log i)) (s.0 i))
              ∙ sym two.1.2;
          alike = s.1;
          ready = s.2;
          ready_too = s.3;
        }
    turn_same w x number (command.Node node capacity mode) kept a b said heard alike r q one two =
        event_same w x (Node node capacity mode) kept a b said heard (node_same w x node capacity mode alike r q) one two
    turn_same w x number (command.Deliver node) kept a b said heard alike r q one two =
        event_same w x (Deliver node) kept a b said heard (deliver_same w x node alike r q) one two
    turn_same w x number (command.Get node pass path) kept a b said heard alike r q one two =
        event_same w x (Request node pass path kept) kept a b said heard (request_same w x node pass path kept alike r q) one two
    turn_same w x number (command.Evict node path) kept a b said heard alike r q one two =
        event_same w x (Evict node path) kept a b said heard (evict_same w x node path alike r q) one two
    turn_same w x number (command.BadFeed why) kept a b said heard alike r q one two = nothing_same w x kept a b said heard (bad_feed_text why) alike r q one two
    turn_same w x number command.Blank kept a b said heard alike r q one two = nothing_same w x kept a b said heard [] alike r q one two
    turn_same w x number command.NotBuilt kept a b said heard alike r q one two = nothing_same w x kept a b said heard (not_built_text number) alike r q one two
    turn_same w x number command.Bad kept a b said heard alike r q one two = nothing_same w x kept a b said heard (bad_line_text number) alike r q one two
    turn_same w x number command.Status kept a b said heard alike r q one two =
        nothing_same w x kept a b said heard (status_text (status site w)) alike r q one (two.0, two.1, two.2 ∙ ap status_text (sym (same_status w x alike)))

    -- what is written tells whether a page was kept
    happens_told : (w x : World) (event : Event) (kept other : Bool) (a b : List Event) (said heard : Word) → SameStep w x event → Happens site limits w event kept a said → Happens site limits x event other b heard → kept ≡ other
    happens_told w x event kept other a b said heard same one two =
        one.1.2 ∙ ap tells_kept (told_once (step site limits w event) one.1.0 same.reply one.1.1 same.tells
        ∙ sym (told_once (step site limits x event) two.1.0 same.reply two.1.1 same.tells_too)) ∙ sym two.1.2

    -- one request whose page isn't kept, and one whose page is
    request_told : (w x : World) (number pass : ℕ) (path : Path) (a b : List Event) (said heard more rest : Word) → Alike w x
        → Happens site limits w (Request number pass path false) false a said → Happens site limits x (Request number pass path true) true b heard → said ++ more ≡ heard ++ rest → ⊥
    request_told w x number pass path a b said heard more rest alike one two same = by_node (fin.get w.nodes number) refl
      where
        by_node : (o : Option Cache) → fin.get w.nodes number ≡ o → ⊥
        by_node None is =
            let goes : step site limits w (Request number pass path false) ≡ told (NoNode number) w = ap (λ (o : Option Cache). requested number pass path false o w) is in
            let e : one.1.0 ≡ NoNode number = told_once (step site limits w (Request number pass path false)) one.1.0 (NoNode number) one.1.1 (w.replies, ap (λ (u : World). u.replies) goes) in
            true≢false (sym (one.1.2 ∙ ap tells_kept e))
        by_node (Some cache) is = elim (unkept_is_free w.log cache pass path).1 [
          | inl kept ↦ true≢false (sym kept ∙ sym (one.1.2 ∙ ap tells_kept unkept))
          | inr differ ↦
              texts_differ differ.0 differ.1 more rest
              (ap (λ (t : Told). told_text t ++ more) (sym (unkept ∙ ap answered differ.2)) ∙ ap (λ (t : Word). t ++ more) (sym one.1.3)
              ∙ same ∙ ap (λ (t : Word). t ++ rest) two.1.3 ∙ ap (λ (t : Told). told_text t ++ rest) (is_kept ∙ ap answered differ.3))
        ]
          where
            unkept : one.1.0 ≡ answered (answer cache w.log pass path false).reply
            unkept = told_once (step site limits w (Request number pass path false)) one.1.0 _ one.1.1
                (w.replies, ap (λ (u : World). u.replies) (ap (λ (o : Option Cache). requested number pass path false o w) is))

            is_kept : two.1.0 ≡ answered (answer cache w.log pass path true).reply
            is_kept = told_once (step site limits x (Request number pass path true)) two.1.0 _ two.1.1 (
              x.replies,
              ap (λ (u : World). u.replies) (ap (λ (o : Option Cache). requested number pass path true o x) (there w x number (Some cache) alike is)
                  ∙ ap (λ (log : List Bundle). told (answered (answer cache log pass path true).reply) (with_node number (answer cache log pass path true).cache x)) (sym alike.log)),
            )

    turn_told : (w x : World) (number : ℕ) (c : Command) (kept other : Bool) (a b : List Event) (said heard more rest : Word) → Alike w x → IsReady site w → IsReady site x
        → StandsFor site limits w number c kept a said → StandsFor site limits x number c other b heard → said ++ more ≡ heard ++ rest → kept ≡ other
    turn_told w x number (command.Commit commit) kept other a b said heard more rest alike r q one two same =
        happens_told w x (Comes commit) kept other a b said heard (commit_same w x commit alike r q) one two
    turn_told w x number command.Settle kept other a b said heard more rest alike r q one two same = one.0 ∙ sym two.0
    turn_told w x number (command.Node node capacity mode) kept other a b said heard more rest alike r q one two same =
        happens_told w x (Node node capacity mode) kept other a b said heard (node_same w x node capacity mode alike r q) one two
    turn_told w x number (command.Deliver node) kept other a b said heard more rest alike r q one two same =
        happens_told w x (Deliver node) kept other a b said heard (deliver_same w x node alike r q) one two
    turn_told w x number (command.Get node pass path) true true a b said heard more rest alike r q one two same = refl
    turn_told w x number (command.Get node pass path) false false a b said heard more rest alike r q one two same = refl
    turn_told w x number (command.Get node pass path) false true a b said heard more rest alike r q one two same =
        absurd (request_told w x node pass path a b said heard more rest alike one two same)
    turn_told w x number (command.Get node pass path) true false a b said heard more rest alike r q one two same =
        absurd (request_told x w node pass path b a heard said rest more (alike_back w x alike) two one (sym same))
    turn_told w x number (command.Evict node path) kept other a b said heard more rest alike r q one two same =
        happens_told w x (Evict node path) kept other a b said heard (evict_same w x node path alike r q) one two
    turn_told w x number (command.BadFeed why) kept other a b said heard more rest alike r q one two same = one.0 ∙ sym two.0
    turn_told w x number command.Blank kept other a b said heard more rest alike r q one two same = one.0 ∙ sym two.0
    turn_told w x number command.NotBuilt kept other a b said heard more rest alike r q one two same = one.0 ∙ sym two.0
    turn_told w x number command.Bad kept other a b said heard more rest alike r q one two same = one.0 ∙ sym two.0
    turn_told w x number command.Status kept other a b said heard more rest alike r q one two same = one.0 ∙ sym two.0

    behind : (before events : List Event) → run site limits (before ++ events) ≡ fold (step site limits) (run site limits before) events
    behind before events = fold-append (step site limits) first_world before events

    -- two plays of commands, from states that are alike
    abbrev AreReady : List Event → List Event → Type 0
    AreReady before start = Alike (run site limits before) (run site limits start) × IsReady site (run site limits before) × IsReady site (run site limits start)

    ready_then : (before start a b : List Event) (said heard : Word) → SameTurn (run site limits before) (run site limits start) a b said heard → AreReady (before ++ a) (start ++ b)
    ready_then before start a b said heard t = (
      between (behind before a) (behind start b) t.alike,
      subst (IsReady site) (sym (behind before a)) t.ready,
      subst (IsReady site) (sym (behind start b)) t.ready_too,
    )

    plays_same : (cs : List Command) (kept : List Bool) (before start : List Event) (number : ℕ) (last out heard : Word) → AreReady before start
        → PlaysBy site limits before number cs kept last out → PlaysBy site limits start number cs kept last heard → out ≡ heard
    plays_same [] [] before start number last out heard r one two = one ∙ sym two
    plays_same [] (k ∷ ks) before start number last out heard r one two = absurd one
    plays_same (c ∷ cs) [] before start number last out heard r one two = absurd one
    plays_same (c ∷ cs) (k ∷ ks) before start number last out heard r one two =
        let t : SameTurn (run site limits before) (run site limits start) one.0 two.0 one.1.0 two.1.0 =
        turn_same (run site limits before) (run site limits start) (number + 1) c k one.0 two.0 one.1.0 two.1.0 r.0 r.1 r.2 one.1.1.1 two.1.1.1 in
        let more : one.1.1.0 ≡ two.1.1.0 =
        plays_same cs ks (before ++ one.0) (start ++ two.0) (number + 1) last one.1.1.0 two.1.1.0 (ready_then before start one.0 two.0 one.1.0 two.1.0 t) one.1.1.3 two.1.1.3 in
        one.1.1.2 ∙ (λ i. t.texts i ++ more i) ∙ sym two.1.1.2

    plays_told : (cs : List Command) (kept others : List Bool) (before start : List Event) (number : ℕ) (last out heard : Word) → AreReady before start
        → PlaysBy site limits before number cs kept last out → PlaysBy site limits start number cs others last heard → out ≡ heard → kept ≡ others
    plays_told [] [] [] before start number last out heard r one two same = refl
    plays_told [] (k ∷ ks) others before start number last out heard r one two same = absurd one
    plays_told [] [] (l ∷ ls) before start number last out heard r one two same = absurd two
    plays_told (c ∷ cs) [] others before start number last out heard r one two same = absurd one
    plays_told (c ∷ cs) (k ∷ ks) [] before start number last out heard r one two same = absurd two
    plays_told (c ∷ cs) (k ∷ ks) (l ∷ ls) before start number last out heard r one two same =
        let written : one.1.0 ++ one.1.1.0 ≡ two.1.0 ++ two.1.1.0 = sym one.1.1.2 ∙ same ∙ two.1.1.2 in
        let kept : k ≡ l =
        turn_told (run site limits before) (run site limits start) (number + 1) c k l one.0 two.0 one.1.0 two.1.0 one.1.1.0 two.1.1.0 r.0 r.1 r.2 one.1.1.1 two.1.1.1 written in
        let t : SameTurn (run site limits before) (run site limits start) one.0 two.0 one.1.0 two.1.0 =
        turn_same (run site limits before) (run site limits start) (number + 1) c k one.0 two.0 one.1.0 two.1.0 r.0 r.1 r.2 one.1.1.1
        (subst (λ (b : Bool). StandsFor site limits (run site limits start) (number + 1) c b two.0 two.1.0) (sym kept) two.1.1.1) in
        let more : one.1.1.0 ≡ two.1.1.0 = append_cancel_left one.1.0 one.1.1.0 two.1.1.0 (written ∙ ap (λ (said : Word). said ++ two.1.1.0) (sym t.texts)) in
        let rest : ks ≡ ls =
        plays_told cs ks ls (before ++ one.0) (start ++ two.0) (number + 1) last one.1.1.0 two.1.1.0 (ready_then before start one.0 two.0 one.1.0 two.1.0 t) one.1.1.3 two.1.1.3 more in
        (λ i. kept i ∷ rest i)

    -- each command is answered
    settle_exists : (w : World) → IsReady site w → (events : List Event) × ((counts : Counts) × Settles site limits w events counts)
    settle_exists w r = let e = settle_ends site limits w (earlier w.commits r.allowed) r.slot in (e.0, (e.1.0, e.1.1))

    -- with every page kept
    abbrev Answered : World → ℕ → Command → Type 0
    Answered w number c = (events : List Event) × ((said : Word) × StandsFor site limits w number c true events said)

    event_exists : (w : World) (event : Event) → SameStep w w event → CanKeep event → (events : List Event) × ((said : Word) × Happens site limits w event true events said)
    event_exists w event same can = (event ∷ [], (told_text same.reply, (refl, (same.reply, same.tells, sym (same.keeps can), refl))))

    turn_exists : (w : World) (number : ℕ) (c : Command) → IsReady site w → Answered w number c
    turn_exists w number (command.Commit commit) r = event_exists w (Comes commit) (commit_same w w commit (alike_itself w) r r) tt
    turn_exists w number command.Settle r =
        let s : (events : List Event) × ((counts : Counts) × Settles site limits w events counts) = settle_exists w r in
        (s.0, (settled_text (length (fold (step site limits) w s.0).log) (length (fold (step site limits) w s.0).log - length w.log) s.1.0, (refl, (s.1.0, s.1.1, refl))))
    turn_exists w number (command.Node node capacity mode) r = event_exists w (Node node capacity mode) (node_same w w node capacity mode (alike_itself w) r r) tt
    turn_exists w number (command.Deliver node) r = event_exists w (Deliver node) (deliver_same w w node (alike_itself w) r r) tt
    turn_exists w number (command.Get node pass path) r = event_exists w (Request node pass path true) (request_same w w node pass path true (alike_itself w) r r) refl
    turn_exists w number (command.Evict node path) r = event_exists w (Evict node path) (evict_same w w node path (alike_itself w) r r) tt
    turn_exists w number (command.BadFeed why) r = ([], (bad_feed_text why, (refl, refl, refl)))
    turn_exists w number command.Blank r = ([], ([], (refl, refl, refl)))
    turn_exists w number command.NotBuilt r = ([], (not_built_text number, (refl, refl, refl)))
    turn_exists w number command.Bad r = ([], (bad_line_text number, (refl, refl, refl)))
    turn_exists w number command.Status r = ([], (status_text (status site w), (refl, refl, refl)))

    pub plays_from : (cs : List Command) (before : List Event) (number : ℕ) (last : Word) → IsReady site (run site limits before) → (out : Word) × PlaysBy site limits before number cs (all_kept cs) last out
    plays_from [] before number last r = (last, refl)
    plays_from (c ∷ cs) before number last r =
        let t : Answered (run site limits before) (number + 1) c = turn_exists (run site limits before) (number + 1) c r in
        let next : IsReady site (run site limits (before ++ t.0)) =
        subst (IsReady site) (sym (behind before t.0)) (turn_same (run site limits before) (run site limits before) (number + 1) c true t.0 t.0 t.1.0 t.1.0 (alike_itself (run site limits before)) r r t.1.1 t.1.1).ready in
        let rest : (out : Word) × PlaysBy site limits (before ++ t.0) (number + 1) cs (all_kept cs) last out = plays_from cs (before ++ t.0) (number + 1) last next in
        (t.1.0 ++ rest.0, (t.0, (t.1.0, (rest.0, t.1.1, refl, rest.1))))

pub starts_ready : StartsReady
starts_ready site = record { idle = refl; slot = fin.get-empty nat_cmp 0; allowed = record { fits = λ k commit is. absurd (none-some commit is) } }

pub plays_exist : PlaysExist
plays_exist site limits number commands last earlier = plays_from site limits earlier commands [] number last (starts_ready site)

pub plays_are_one : PlaysAreOne
plays_are_one site limits number commands kept last a b earlier one two =
    plays_same site limits earlier commands kept [] [] number last a b (alike_itself first_world, starts_ready site, starts_ready site) one two

pub plays_tell_kept : PlaysTellKept
plays_tell_kept site limits number commands kept others last out earlier one two =
    plays_told site limits earlier commands kept others [] [] number last out out (alike_itself first_world, starts_ready site, starts_ready site) one two refl

pub commands_leave_ready : CommandsLeaveReady
commands_leave_ready site limits w number command kept events out earlier r stands =
    (turn_same site limits earlier w w number command kept events events out out (alike_itself w) r r stands stands).ready

-- what publishing leaves as it is
module _ (site : Parts) (limits : Limits) where
  published_keeps : (t : Target) (n : ℕ) (o : Option (List Path)) (w : World) → ((published_by t n o w).commits ≡ w.commits) × ((published_by t n o w).target ≡ w.target)
  published_keeps t n None w = (refl, refl)
  published_keeps t n (Some paths) w = (refl, refl)

  publishes_keep : (n : ℕ) (w : World) → ((fold (step site limits) w (publishes n)).commits ≡ w.commits) × ((fold (step site limits) w (publishes n)).target ≡ w.target)
  publishes_keep zero w = (refl, refl)
  publishes_keep (suc n) w =
      let one = published_keeps (target_of site w w.target) (version_of w.target) (next_of site limits w) w in
      let rest = publishes_keep n (step site limits w Publish) in
      (rest.0 ∙ one.0, rest.1 ∙ one.1)

  all_done : (n : ℕ) (w : World) → (LastTold w NothingChanged → ⊥) → LastTold (fold (step site limits) w (publishes n)) NothingChanged → IsDone site limits (fold (step site limits) w (publishes n))
  all_done zero w unpublished last = absurd (unpublished last)
  all_done (suc n) w unpublished last =
      subst (IsDone site limits) (sym (publishes_snoc site limits n w))
      (done_after site limits (fold (step site limits) w (publishes n)) (subst (λ u. LastTold u NothingChanged) (publishes_snoc site limits n w) last))

pub settles_leave_nothing : SettlesLeaveNothing
settles_leave_nothing site limits w events counts earlier r settles =
    let h : Outcome site limits w events counts = settle_comes site limits earlier w events counts r settles in
    let keeps = publishes_keep site limits h.count h.before in
    let ready : IsReady site (fold (step site limits) h.before (publishes h.count)) = publishes_ready site limits h.count h.before h.ready in
    let made : (fold (step site limits) h.before (publishes h.count)).target ≡ Some (length (fold (step site limits) h.before (publishes h.count)).commits) =
    keeps.1 ∙ h.target ∙ ap (λ (cs : List Commit). Some (length cs)) (sym h.commits ∙ sym keeps.0) in
    let done : IsDone site limits (fold (step site limits) h.before (publishes h.count)) = all_done site limits h.count h.before h.unpublished h.last in
    subst (NothingPending site) (sym h.ends) (record {
      idle = ready.idle;
      made = made;
      published = λ p.
          ap (λ (t : Target). changed (looks (edition (fold (step site limits) h.before (publishes h.count)).log)) (target_looks t) p) (sym (last_target site (fold (step site limits) h.before (publishes h.count)) made))
          ∙ (bundle_is_none (edition (fold (step site limits) h.before (publishes h.count)).log)
          (target_of site (fold (step site limits) h.before (publishes h.count)) (fold (step site limits) h.before (publishes h.count)).target)).0 done p;
    })
