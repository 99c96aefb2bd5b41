-- What each step of the machine keeps.
use Rattle.std.proofs.Common.{◌≡◌, ℕ, ◌≤◌, Bool, true, false, not, cond, List, [], ◌∷◌, ◌++◌, Option, Some, None, length, take, drop, refl, sym, ap, subst, ◌∙◌, arith}
use Rattle.std.proofs.Math.Seq.{take-length}
use Rattle.std.specs.Prelude.{⊤, bytes_eq}
use Rattle.std.specs.Option.{MatchOption, option_map, option_eq}
use Rattle.std.specs.List.{filter}
use Rattle.std.specs.Ordering.{nat_cmp, eq_by_cmp}
use Rattle.std.specs.Cmp.{nat_cmp_total}
use Rattle.std.proofs.lemmas.Bool.{true≢false}
use Rattle.std.proofs.lemmas.Option.{none-some, same_Some}
use Rattle.std.proofs.lemmas.List.{take-append-le, length-take-le}
use Rattle.std.specs.FinMap as fin
use Rattle.dup_names.specs.Order.{text_cmp}
use Rattle.dup_names.specs.declared.value.Look.{Look}
use Rattle.dup_template.specs.declared.site.Parts.{Parts}
use Rattle.dup_names.specs.Words.{Path}
use Rattle.dup_model.specs.Commits.{Commit}
use Rattle.dup_model.specs.Versions.{IsHistory, content}
use Rattle.dup_model.specs.Pages.{target_at}
use Rattle.dup_model.specs.Journal.{Limits, commit_refusal}
use Rattle.dup_model.specs.Pages.{target}
use Rattle.dup_model.specs.Needs.{changed, same_look}
use Rattle.dup_model.specs.Editions.{Page, Bundle, edition, history, bundle_of, IsConsistent, looks, target_looks, has}
use Rattle.dup_model.specs.Bundles.{bundle}
use Rattle.dup_model.specs.Logs.{IsNext, IsGoodLog}
use Rattle.dup_model.specs.Caches.{Cache, catch_up}
use Rattle.dup_model.specs.declared.mode.Mode.{Mode}
use Rattle.dup_model.specs.Answers.{Reply, answer}
use Rattle.dup_machine.specs.World.{World, Told, Event, answered}
use Rattle.dup_machine.specs.World.Told.{NothingChanged, NodeMade, NodeTaken, NoNode}
use Rattle.dup_machine.specs.World.Event.{Comes, Begin, Hand, Put, Join, Finish, Publish, Node, Deliver, Request, Evict}
use Rattle.dup_machine.specs.Press.{press_of, published_by, published}
use Rattle.dup_machine.specs.Presses.{version_of}
use Rattle.dup_machine.specs.Nodes.{with_node, node_made, delivered, requested, evicted}
use Rattle.dup_machine.specs.Run.{step}
use Rattle.dup_model.proofs.Lists.{after_front, length_snoc}
use Rattle.dup_model.proofs.Push.{good_push, next_consistent, history_snoc}
use Rattle.dup_model.proofs.BundleFacts.{bundle_first}
use Rattle.dup_model.proofs.Histories.{history_take, version_sound}
use Rattle.dup_model.proofs.Caching.{IsCacheOf, AreOf, FairReply, Placed, catch_up_of, IsAnswer, answer_of, filter_of, none_of}
use Rattle.dup_machine.proofs.PressSteps.{reply_of, reply_answered, IsTimely, Quiet, quiet_committed, quiet_begun, quiet_handed, quiet_put_from, quiet_joined, quiet_finished, timely_work, timely_committed, timely_begun, timely_handed, timely_put_from, timely_joined, timely_finished}

-- a step that answers a request, if any, fairly
abbrev pub asked : Event → Option (ℕ × Path)
asked (Request node pass path kept) = Some (pass, path)
asked _ = None

abbrev pub FairTold : List Bundle → Event → Told → Type 0
FairTold log ev t = MatchOption (reply_of t) ⊤ (λ r. MatchOption (asked ev) ⊥ (λ q. FairReply log q.0 q.1 r))

-- what each step does to the log, the nodes and the replies
pub record Steps (w : World) (ev : Event) (new : World) : Type 0 where
  pub more : List Bundle
  pub log : new.log ≡ w.log ++ more
  pub reply : Told
  pub told_it : new.replies ≡ w.replies ++ reply ∷ []
  pub fair : FairTold w.log ev reply
  pub caches : (number : ℕ) (cache : Cache) → fin.get new.nodes number ≡ Some cache → IsCacheOf new.log cache

abbrev pub HasCaches : World → Type 0
HasCaches w = (number : ℕ) (cache : Cache) → fin.get w.nodes number ≡ Some cache → IsCacheOf w.log cache

no_answer : (t : Told) → reply_of t ≡ None → (log : List Bundle) (ev : Event) → FairTold log ev t
no_answer t other log ev = subst (λ o. MatchOption o ⊤ (λ r. MatchOption (asked ev) ⊥ (λ q. FairReply log q.0 q.1 r))) (sym other) tt

-- the answer to a request is fair
fair_answer : (log : List Bundle) (number pass : ℕ) (path : Path) (keeps : Bool) (r : Reply) → FairReply log pass path r → FairTold log (Request number pass path keeps) (answered r)
fair_answer log number pass path keeps r fair = subst (λ o. MatchOption o ⊤ (λ r. FairReply log pass path r)) (sym (reply_answered r)) fair

pub no_more : {A : Type 0} (xs : List A) → xs ≡ xs ++ []
no_more [] = refl
no_more (x ∷ xs) = ap (λ l. x ∷ l) (no_more xs)

steps_quiet : (w : World) (ev : Event) (new : World) → HasCaches w → Quiet w new → Steps w ev new
steps_quiet w ev new caches q = record {
  more = [];
  log = q.log ∙ no_more w.log;
  reply = q.reply;
  told_it = q.told_it;
  fair = no_answer q.reply q.other w.log ev;
  caches = λ number cache is. subst (λ l. IsCacheOf l cache) (sym q.log) (caches number cache (ap (λ nodes. fin.get nodes number) (sym q.nodes) ∙ is));
}

-- one node is set
caches_with : (w : World) (number : ℕ) (cache : Cache) → HasCaches w → IsCacheOf w.log cache → HasCaches (with_node number cache w)
caches_with w number cache caches one other found is =
    by_tie (eq_by_cmp nat_cmp other number) (sym (fin.get-insert nat_cmp_total w.nodes number cache other) ∙ is)
  where
    by_tie : (b : Bool) → cond b (Some cache) (fin.get w.nodes other) ≡ Some found → IsCacheOf w.log found
    by_tie true is = subst (IsCacheOf w.log) (same_Some cache found is) one
    by_tie false is = caches other found is

pub AllPlaced : List Bundle → Type 0
AllPlaced log = (k : ℕ) → k ≤ length log → Placed (edition (take k log))

pub placed_from_good : (site : Parts) (log : List Bundle) → IsGoodLog site log → AllPlaced log
unfolding AllPlaced Placed
placed_from_good site log good k h p page is = ((good.consistent k h).rendered p page is).0

module _ (w : World) (caches : HasCaches w) where
  steps_node : (number capacity : ℕ) (mode : Mode) (o : Option Cache) → Steps w (Node number capacity mode) (node_made number capacity mode o w)
  steps_node number capacity mode (Some cache) = record { more = []; log = no_more w.log; reply = NodeTaken number; told_it = refl; fair = tt; caches = caches }
  steps_node number capacity mode None = record {
    more = [];
    log = no_more w.log;
    reply = NodeMade number;
    told_it = refl;
    fair = tt;
    caches = caches_with w number (record { capacity = capacity; mode = mode; number = 0; entries = [] }) caches (record { within = omega arith; pages = none_of _ });
  }

  steps_deliver : AllPlaced w.log → (number : ℕ) (o : Option Cache) → fin.get w.nodes number ≡ o → Steps w (Deliver number) (delivered number o w)
  unfolding AllPlaced
  steps_deliver placed number None is = record { more = []; log = no_more w.log; reply = NoNode number; told_it = refl; fair = tt; caches = caches }
  steps_deliver placed number (Some cache) is = record {
    more = [];
    log = no_more w.log;
    reply = _;
    told_it = refl;
    fair = tt;
    caches = caches_with w number (catch_up w.log cache) caches (catch_up_of w.log placed cache (caches number cache is));
  }

  steps_request : AllPlaced w.log → (number pass : ℕ) (path : Path) (keeps : Bool) (o : Option Cache) → fin.get w.nodes number ≡ o → Steps w (Request number pass path keeps) (requested number pass path keeps o w)
  unfolding AllPlaced IsAnswer
  steps_request placed number pass path keeps None is = record { more = []; log = no_more w.log; reply = NoNode number; told_it = refl; fair = tt; caches = caches }
  steps_request placed number pass path keeps (Some cache) is =
      let a : IsAnswer w.log placed pass path (answer cache w.log pass path keeps) = answer_of w.log placed cache (caches number cache is) pass path keeps in
      record {
        more = [];
        log = no_more w.log;
        reply = answered (answer cache w.log pass path keeps).reply;
        told_it = refl;
        fair = fair_answer w.log number pass path keeps (answer cache w.log pass path keeps).reply a.1;
        caches = caches_with w number (answer cache w.log pass path keeps).cache caches a.0;
      }

  steps_evict : (number : ℕ) (path : Path) (o : Option Cache) → fin.get w.nodes number ≡ o → Steps w (Evict number path) (evicted number path o w)
  steps_evict number path None is = record { more = []; log = no_more w.log; reply = NoNode number; told_it = refl; fair = tt; caches = caches }
  steps_evict number path (Some cache) is =
      let old : IsCacheOf w.log cache = caches number cache is in
      record {
        more = [];
        log = no_more w.log;
        reply = _;
        told_it = refl;
        fair = tt;
        caches = caches_with w number (record cache { entries = filter (λ page. not (bytes_eq page.path path)) cache.entries }) caches
            (record { within = old.within; pages = filter_of (edition (take cache.number w.log)) (λ page. not (bytes_eq page.path path)) cache.entries old.pages });
      }

-- a step of a node leaves the press
pub record SamePress (w new : World) : Type 0 where
  pub commits : new.commits ≡ w.commits
  pub target : new.target ≡ w.target
  pub work : new.work ≡ w.work
  pub log : new.log ≡ w.log

same_node : (number capacity : ℕ) (mode : Mode) (o : Option Cache) (w : World) → SamePress w (node_made number capacity mode o w)
same_node number capacity mode (Some cache) w = record { commits = refl; target = refl; work = refl; log = refl }
same_node number capacity mode None w = record { commits = refl; target = refl; work = refl; log = refl }

same_delivered : (number : ℕ) (o : Option Cache) (w : World) → SamePress w (delivered number o w)
same_delivered number (Some cache) w = record { commits = refl; target = refl; work = refl; log = refl }
same_delivered number None w = record { commits = refl; target = refl; work = refl; log = refl }

same_requested : (number pass : ℕ) (path : Path) (keeps : Bool) (o : Option Cache) (w : World) → SamePress w (requested number pass path keeps o w)
same_requested number pass path keeps (Some cache) w = record { commits = refl; target = refl; work = refl; log = refl }
same_requested number pass path keeps None w = record { commits = refl; target = refl; work = refl; log = refl }

same_evicted : (number : ℕ) (path : Path) (o : Option Cache) (w : World) → SamePress w (evicted number path o w)
same_evicted number path (Some cache) w = record { commits = refl; target = refl; work = refl; log = refl }
same_evicted number path None w = record { commits = refl; target = refl; work = refl; log = refl }

none_differs : (a : Option Page) (b : Option Look) → a ≡ None → b ≡ None → not (option_eq same_look (option_map (λ page. page.look) a) b) ≡ true → ⊥
none_differs a b a_is b_is h = true≢false (sym h ∙ ap (λ a. not (option_eq same_look (option_map (λ page. page.look) a) b)) a_is ∙ ap (λ b. not (option_eq same_look None b)) b_is)

-- between no edition and no target nothing is changed
nothing_of_nothing : (paths : List Path) → bundle fin.empty fin.empty ≡ Some paths → ⊥
nothing_of_nothing paths is =
    let p : (p : Path) × (changed (looks fin.empty) (target_looks fin.empty) p ≡ true) × (has paths p ≡ true) = bundle_first fin.empty fin.empty paths is in
    none_differs (fin.get fin.empty p.0) (fin.get fin.empty p.0) (fin.get-empty text_cmp p.0) (fin.get-empty text_cmp p.0) p.1

module _ (site : Parts) (limits : Limits) where
  -- all that a step needs and keeps
  pub record IsFit (w : World) : Type 0 where
    pub good : IsGoodLog site w.log
    pub timely : IsTimely site w
    pub caches : HasCaches w

  IsCacheOf-more : (log : List Bundle) (b : Bundle) (cache : Cache) → IsCacheOf log cache → IsCacheOf (log ++ b ∷ []) cache
  IsCacheOf-more log b cache old = record {
    within = omega (arith, old.within, length_snoc log b);
    pages = subst (λ l. AreOf (edition l) cache.entries) (sym (take-append-le cache.number log (b ∷ []) old.within)) old.pages;
  }

  module _ (w : World) (fit : IsFit w) (version : ℕ) (target_is : w.target ≡ Some version) where
    new_commits : List Commit
    new_commits = drop (length (history w.log)) (take version w.commits)

    within : version ≤ length w.commits
    within = subst (λ target. version_of target ≤ length w.commits) target_is fit.timely.target_within

    covers : history w.log ++ new_commits ≡ take version w.commits
    unfolding new_commits
    covers =
        let all : history w.log ++ fit.timely.covered.0 ≡ take version w.commits = subst (λ target. history w.log ++ fit.timely.covered.0 ≡ take (version_of target) w.commits) target_is fit.timely.covered.1 in
        ap (λ l. history w.log ++ drop (length (history w.log)) l) (sym all) ∙ ap (λ l. history w.log ++ l) (after_front (history w.log) fit.timely.covered.0) ∙ all

    counted : length (history w.log ++ new_commits) ≡ version
    counted = ap length covers ∙ length-take-le version w.commits within

    next_of_paths : (paths : List Path) → bundle (edition w.log) (target_at site w.commits version) ≡ Some paths →
        IsNext site w.log (bundle_of (target_at site w.commits version) version (drop (length (history w.log)) (take version w.commits)) paths)
    unfolding new_commits
    next_of_paths paths chosen = record {
      paths = paths;
      chosen = ap (λ h. bundle (edition w.log) (target (content site h))) covers ∙ chosen;
      is = sym (ap (λ h. bundle_of (target (content site h)) (length (history w.log ++ new_commits)) new_commits paths) covers ∙ ap (λ v. bundle_of (target_at site w.commits version) v new_commits paths) counted);
    }

    fit_published : (chosen : Option (List Path)) → bundle (edition w.log) (target_at site w.commits version) ≡ chosen →
        IsFit (published_by (target_at site w.commits version) version chosen w) × Steps w Publish (published_by (target_at site w.commits version) version chosen w)
    unfolding new_commits
    fit_published None is = (
      record { good = fit.good; timely = timely_work site (press_of w) _ refl refl refl fit.timely.work_within fit.timely; caches = fit.caches },
      record { more = []; log = no_more w.log; reply = NothingChanged; told_it = refl; fair = tt; caches = fit.caches },
    )
    fit_published (Some paths) is =
        let b : Bundle = bundle_of (target_at site w.commits version) version (drop (length (history w.log)) (take version w.commits)) paths in
        let next : IsNext site w.log b = next_of_paths paths is in
        let whole : history (w.log ++ b ∷ []) ≡ take version w.commits = history_snoc w.log b ∙ covers in
        let more_caches : (number : ℕ) (cache : Cache) → fin.get w.nodes number ≡ Some cache → IsCacheOf (w.log ++ b ∷ []) cache = λ number cache at. IsCacheOf-more w.log b cache (fit.caches number cache at) in (
          record {
            good = good_push site w.log b fit.good
                (subst (IsHistory site) (sym whole) (history_take site w.commits version fit.timely.allowed))
                (next_consistent site w.log b fit.good (version_sound site) next (subst (λ l. IsConsistent site (history l) (edition l)) (take-length w.log) (fit.good.consistent (length w.log) (omega arith))))
                next;
            timely = record {
              allowed = fit.timely.allowed;
              covered = ([], sym (no_more _) ∙ whole ∙ ap (λ target. take (version_of target) w.commits) (sym target_is));
              target_within = fit.timely.target_within;
              work_within = fit.timely.work_within;
              unpublished = λ none. absurd (none-some version (sym none ∙ target_is));
            };
            caches = more_caches;
          },
          record { more = b ∷ []; log = refl; reply = _; told_it = refl; fair = tt; caches = more_caches },
        )

  fit_unpublished : (w : World) → IsFit w → w.log ≡ [] → (chosen : Option (List Path)) → bundle (edition w.log) fin.empty ≡ chosen →
      IsFit (published_by fin.empty 0 chosen w) × Steps w Publish (published_by fin.empty 0 chosen w)
  fit_unpublished w fit none None is = (
    record { good = fit.good; timely = timely_work site (press_of w) _ refl refl refl fit.timely.work_within fit.timely; caches = fit.caches },
    record { more = []; log = no_more w.log; reply = NothingChanged; told_it = refl; fair = tt; caches = fit.caches },
  )
  fit_unpublished w fit none (Some paths) is = absurd (nothing_of_nothing paths (ap (λ l. bundle (edition l) fin.empty) (sym none) ∙ is))

  fit_publish : (w : World) → IsFit w → (target : Option ℕ) → w.target ≡ target → IsFit (published site target w) × Steps w Publish (published site target w)
  fit_publish w fit None is = fit_unpublished w fit (fit.timely.unpublished is) (bundle (edition w.log) fin.empty) refl
  fit_publish w fit (Some version) is = fit_published w fit version is (bundle (edition w.log) (target_at site w.commits version)) refl

  fit_quiet : (w : World) (ev : Event) (new : World) → IsFit w → Quiet w new → IsTimely site new → IsFit new × Steps w ev new
  fit_quiet w ev new fit q t =
      let s : Steps w ev new = steps_quiet w ev new fit.caches q in
      (record { good = subst (IsGoodLog site) (sym q.log) fit.good; timely = t; caches = s.caches }, s)

  fit_nodes : (w : World) (ev : Event) (new : World) → IsFit w → SamePress w new → Steps w ev new → IsFit new × Steps w ev new
  fit_nodes w ev new fit same s = (
    record {
      good = subst (IsGoodLog site) (sym same.log) fit.good;
      timely = timely_work site (press_of w) (press_of new) same.commits same.target same.log (rw (same.commits, same.target, same.work) fit.timely.work_within) fit.timely;
      caches = s.caches;
    },
    s,
  )

  pub fit_step : (w : World) → IsFit w → (ev : Event) → IsFit (step site limits w ev) × Steps w ev (step site limits w ev)
  fit_step w fit (Comes c) = fit_quiet w _ _ fit (quiet_committed site c (commit_refusal site limits w.commits c) w) (timely_committed site limits c (commit_refusal site limits w.commits c) w refl fit.timely)
  fit_step w fit Begin = fit_quiet w _ _ fit (quiet_begun site w.work w.target w) (timely_begun site w.work w.target w fit.timely)
  fit_step w fit (Hand slot) = fit_quiet w _ _ fit (quiet_handed site slot w.work (fin.get w.slots slot) w) (timely_handed site slot w.work (fin.get w.slots slot) w refl fit.timely)
  fit_step w fit (Put slot) = fit_quiet w _ _ fit (quiet_put_from site slot (fin.get w.slots slot) w) (timely_put_from site slot (fin.get w.slots slot) w fit.timely)
  fit_step w fit Join = fit_quiet w _ _ fit (quiet_joined site w.work w) (timely_joined site w.work w refl fit.timely)
  fit_step w fit Finish = fit_quiet w _ _ fit (quiet_finished site w.work w) (timely_finished site w.work w refl fit.timely)
  fit_step w fit Publish = fit_publish w fit w.target refl
  fit_step w fit (Node number capacity mode) = fit_nodes w _ _ fit (same_node number capacity mode (fin.get w.nodes number) w) (steps_node w fit.caches number capacity mode (fin.get w.nodes number))
  fit_step w fit (Deliver node) = fit_nodes w _ _ fit (same_delivered node (fin.get w.nodes node) w) (steps_deliver w fit.caches (placed_from_good site w.log fit.good) node (fin.get w.nodes node) refl)
  fit_step w fit (Request node pass path keeps) = fit_nodes w _ _ fit (same_requested node pass path keeps (fin.get w.nodes node) w) (steps_request w fit.caches (placed_from_good site w.log fit.good) node pass path keeps (fin.get w.nodes node) refl)
  fit_step w fit (Evict node path) = fit_nodes w _ _ fit (same_evicted node path (fin.get w.nodes node) w) (steps_evict w fit.caches node path (fin.get w.nodes node) refl)
