-- What each call of a press keeps.
use Rattle.std.proofs.Common.{◌≡◌, ℕ, List, [], ◌∷◌, ◌++◌, Option, Some, None, length, take, refl, sym, ap, subst, ◌∙◌, arith}
use Rattle.std.specs.Prelude.{Result, Ok, Err, IfOk, OnErr, OnOk}
use Rattle.std.proofs.lemmas.Option.{none-some}
use Rattle.std.specs.FinMap as fin
use Rattle.dup_names.specs.Order.{text_cmp}
use Rattle.dup_names.specs.Words.{Path}
use Rattle.dup_names.specs.declared.object.Item.{Item}
use Rattle.dup_names.specs.declared.object.Obj.{Obj}
use Rattle.dup_names.specs.declared.value.Look.{Look}
use Rattle.dup_template.specs.declared.site.Parts.{Parts}
use Rattle.dup_template.specs.declared.value.Value.{Value}
use Rattle.dup_model.specs.Commits.{Commit}
use Rattle.dup_model.specs.Editions.{Bundle, target_looks}
use Rattle.dup_model.specs.Journal.{Limits, commit_refusal}
use Rattle.dup_model.specs.Logs.{IsGoodLog}
use Rattle.dup_model.specs.Needs.{IsSound}
use Rattle.dup_model.specs.Pages.{page_looks, target}
use Rattle.dup_model.specs.Versions.{content, version}
use Rattle.dup_model.proofs.Histories.{version_sound}
use Rattle.dup_model.proofs.Push.{good_empty}
use Rattle.dup_records.specs.declared.refusal.CommitRefusal.{CommitRefusal}
use Rattle.dup_machine.specs.Presses.{Press, begin_step, commit_step, finish_step, hand_step, join_step, put_step}
use Rattle.dup_machine.specs.Press.{handed, into_slot, with_press}
use Rattle.dup_machine.specs.Press.{press_of as press_of_world}
use Rattle.dup_machine.specs.Timely.{IsTimely}
use Rattle.dup_machine.specs.World as machine
use Rattle.dup_machine.specs.World.{Told, Work, World}
use Rattle.dup_machine.proofs.PressSteps.{timely_begun, timely_committed, timely_finished, timely_handed, timely_joined, timely_put_back}
use Rattle.dup_build.specs.Closing.{IsClosing}
use Rattle.dup_build.specs.Paths.{SameElsewhere}
use Rattle.dup_build.specs.Targets.{looks_of}
use Rattle.dup_build.specs.declared.answers.Put.{Put}
use Rattle.dup_build.specs.declared.answers.Put.TheVariants as answer
use Rattle.dup_template.specs.Frame.{Frame, frame_of}
use Rattle.dup_build.specs.declared.answers.Closing.{Closing}
use Rattle.dup_bundle.specs.Between.{changed_paths}
use Rattle.dup_bundle.specs.Schedule.{IsSchedule}
use Rattle.dup_bundle.specs.Targets.{Aim, IsSameElsewhere, aim_of}
use Rattle.dup_bundle.proofs.Exact.{nothing_changed}
use Rattle.dup_edition.specs.Logged.{Logged}
use Rattle.dup_press.specs.Journaled.{Journaled}
use Rattle.dup_press.specs.Press.{AdmitsGood, IsPress, aim, aim_at, logged}
use Rattle.dup_press.specs.Worked.{IsHand, IsPut, IsStep, Worked, built_of, pages_at, press_of}
use Rattle.dup_press.proofs.Aims.{aim_stays, other_edition, same_elsewhere, sorted_entries}
use Rattle.dup_press.proofs.Fits.{keeps_press, world_of}
use Rattle.dup_press.proofs.Works.{begun_target, handed_target, joined_target, put_target}

-- a hand, in a world without slots
into_press : (o : Option Obj) (v : ℕ) (w : World) → press_of_world (into_slot 0 v o w) ≡ press_of_world w
into_press None v w = refl
into_press (Some o) v w = refl

hand_world : (site : Parts) (p : Press) (work : Option Work) → press_of_world (handed site 0 work None (world_of p)) ≡ (hand_step site work p.target p).1
hand_world site p None = refl
hand_world site p (Some work) =
    into_press (hand_step site (Some work) p.target p).0 work.version (with_press (hand_step site (Some work) p.target p).1 (world_of p))

-- before any commit
pub first_press : (admits : List Bundle → Type 0) (w : Worked) (log : List Bundle) (bundles : List (List Path)) → log ≡ [] → w.journal.commits ≡ [] → w.target ≡ None → w.work ≡ None →
    AdmitsGood w.journal.site admits → ((aim_is : Aim) → changed_paths (logged w []) aim_is ≡ [] → IsSchedule (logged w []) aim_is bundles) → IsPress admits w log 0 [] bundles
first_press admits w log bundles empty none no_target idle admitted schedule =
    let here : aim w ≡ record { version = 0; pages = fin.empty } = ap (aim_at w.journal.site w.journal.commits) no_target in
    subst (λ (l : List Bundle). IsPress admits w l 0 [] bundles) (sym empty) (record {
      changed = sym (ap (λ (t : Aim). changed_paths (logged w []) t) here ∙ nothing_changed);
      bundles = schedule (aim w) (ap (λ (t : Aim). changed_paths (logged w []) t) here ∙ nothing_changed);
      published = refl;
      good = good_empty w.journal.site;
      timely = subst (IsTimely w.journal.site) (λ i. record { commits = sym none i; target = sym no_target i; work = sym idle i; log = [] }) (record {
        allowed = record { fits = λ k c is. absurd (none-some c is) };
        covered = ([], refl);
        target_within = omega arith;
        work_within = tt;
        unpublished = λ is. refl;
      });
      admits = admitted;
    })

-- where an accepted commit leads, over one log
pub committed_there : (old new : Worked) (log : List Bundle) (step : Press → Told × Press) (r : Result ℕ CommitRefusal) →
    IfOk r (λ v. IsStep step old (machine.Told.Committed v) new) → IfOk r (λ v. step (press_of log old) ≡ (machine.Told.Committed v, press_of log new))
committed_there old new log step (Ok v) goes = goes log
committed_there old new log step (Err why) goes = tt

-- a step that leaves journal and target, and is timely
pub after_step : (admits : List Bundle → Type 0) (old new : Worked) (log : List Bundle) (n : ℕ) (changed : List Path) (bundles : List (List Path)) (q : Press) →
    IsPress admits old log n changed bundles → press_of log new ≡ q → new.journal ≡ old.journal → q.target ≡ old.target → IsTimely old.journal.site q → IsPress admits new log n changed bundles
after_step admits old new log n changed bundles q is leads journal target timely =
    let same : new.target ≡ old.target = ap (λ (p : Press). p.target) leads ∙ target in
    keeps_press admits old new log n changed bundles is (ap (λ j. j.site) journal) (λ i. aim_at (journal i).site (journal i).commits (same i))
    (subst (λ (s : Parts). IsTimely s (press_of log new)) (sym (ap (λ j. j.site) journal)) (subst (IsTimely old.journal.site) (sym leads) timely))

module _ (admits : List Bundle → Type 0) (old : Worked) (log : List Bundle) (n : ℕ) (changed : List Path) (bundles : List (List Path)) (is : IsPress admits old log n changed bundles) where
  abbrev before : Press
  before = press_of log old

  abbrev site : Parts
  site = old.journal.site

  pub keeps_begun : (new : Worked) (told : Told) → IsStep (begin_step site old.work old.target) old told new → new.journal ≡ old.journal → IsPress admits new log n changed bundles
  keeps_begun new told goes journal =
      after_step admits old new log n changed bundles (begin_step site old.work old.target before).1 is (sym (ap (λ (r : Told × Press). r.1) (goes log))) journal
      (begun_target (length old.journal.commits) (content site old.journal.commits) _ old.work old.target)
      (timely_begun site old.work old.target (world_of before) is.timely)

  pub keeps_handed : (new : Worked) (obj : Option Obj) → IsHand (hand_step site old.work old.target) old obj new → new.journal ≡ old.journal → IsPress admits new log n changed bundles
  keeps_handed new obj goes journal =
      after_step admits old new log n changed bundles (hand_step site old.work old.target before).1 is (sym (ap (λ (r : Option Obj × Press). r.1) (goes log))) journal
      (handed_target _ old.work)
      (subst (IsTimely site) (hand_world site before old.work) (timely_handed site 0 old.work None (world_of before) refl is.timely))

  pub keeps_put : (new : Worked) (o : Obj) (ns : List (Item × Value)) (put : Put) → IsPut (put_step site o ns old.work old.target) old o put new → new.journal ≡ old.journal → IsPress admits new log n changed bundles
  keeps_put new o ns put goes journal =
      after_step admits old new log n changed bundles (put_step site o ns old.work old.target before).1 is (sym (goes log).1) journal
      (put_target _ o ns old.work)
      (timely_put_back site o ns old.work (world_of before) refl is.timely)

  -- the answer to a put of an expansion with this frame
  pub keeps_answered : (new : Worked) (o : Obj) (ns : List (Item × Value)) (frame : Frame) (put : Put) → (put ≡ answer.Foreign → frame ≡ frame_of site → ⊥) → ((frame ≡ frame_of site → ⊥) → new ≡ old) →
      ((put ≡ answer.Foreign → ⊥) → frame ≡ frame_of site) → (frame ≡ frame_of site → IsPut (put_step site o ns old.work old.target) old o put new) → new.journal ≡ old.journal →
      IsPress admits new log n changed bundles
  keeps_answered new o ns frame answer.Foreign foreign stays ours goes journal = subst (λ (w : Worked). IsPress admits w log n changed bundles) (sym (stays (foreign refl))) is
  keeps_answered new o ns frame answer.Unasked foreign stays ours goes journal = keeps_put new o ns answer.Unasked (goes (ours (λ e. cc))) journal
  keeps_answered new o ns frame (answer.Stale item noted present) foreign stays ours goes journal = keeps_put new o ns (answer.Stale item noted present) (goes (ours (λ e. cc))) journal
  keeps_answered new o ns frame (answer.Kept waiting) foreign stays ours goes journal = keeps_put new o ns (answer.Kept waiting) (goes (ours (λ e. cc))) journal

  pub keeps_joined : (new : Worked) (told : Told) → IsStep (join_step site old.work old.target) old told new → new.journal ≡ old.journal → IsPress admits new log n changed bundles
  keeps_joined new told goes journal =
      after_step admits old new log n changed bundles (join_step site old.work old.target before).1 is (sym (ap (λ (r : Told × Press). r.1) (goes log))) journal
      (joined_target _ old.work)
      (timely_joined site old.work (world_of before) refl is.timely)

  -- a commit, accepted or refused
  pub keeps_committed : (limits : Limits) (new : Worked) (commit : Commit) (r : Result ℕ CommitRefusal) →
      IfOk r (λ v. IsStep (commit_step commit (commit_refusal site limits old.journal.commits commit)) old (machine.Told.Committed v) new) →
      OnOk r (new ≡ record old { journal = record old.journal { commits = old.journal.commits ++ commit ∷ [] } }) → OnErr r (new ≡ old) → IsPress admits new log n changed bundles
  keeps_committed limits new commit (Ok v) goes same err =
      keeps_press admits old new log n changed bundles is (ap (λ (w : Worked). w.journal.site) same)
      (ap aim same ∙ aim_stays site old.journal.commits (commit ∷ []) old.target is.timely.target_within)
      (subst (λ (s : Parts). IsTimely s (press_of log new)) (sym (ap (λ (w : Worked). w.journal.site) same))
      (subst (IsTimely site) (ap (λ (r : Told × Press). r.1) (goes log))
      (timely_committed site limits commit (commit_refusal site limits old.journal.commits commit) (world_of before) refl is.timely)))
  keeps_committed limits new commit (Err why) goes same err = subst (λ (w : Worked). IsPress admits w log n changed bundles) (sym err) is

  module _ (new : Worked) (closing : Closing) (closes : IsClosing (built_of old) closing) (journal : new.journal ≡ old.journal) (target_is : new.target ≡ Some closing.target.version) where
    looks_are : looks_of closing.target ≡ page_looks (version site old.journal.commits closing.target.version)
    looks_are = closes.looks ∙ ap (λ (v : ℕ). page_looks (version site old.journal.commits v)) (sym closes.version)

    pub closing_aim : aim_of closing.target ≡ aim new
    closing_aim =
        (λ i. record { version = closing.target.version; pages = (sorted_entries (looks_of closing.target) closes.rising ∙ ap (λ (l : List (Path × Look)). fin.from_entries {R = text_cmp} l) looks_are) i })
        ∙ (λ i. aim_at (sym journal i).site (sym journal i).commits (sym target_is i))

  -- what closing comes to, as the target of a version
  module _ (closing : Closing) (closes : IsClosing (built_of old) closing) where
    abbrev pub next : Worked
    next = record old { target = Some closing.target.version; work = None }

    pub next_aim : aim_of closing.target ≡ aim next
    next_aim = closing_aim next closing closes refl refl

    pub next_sound : IsSound (target_looks (aim_of closing.target).pages)
    next_sound = subst (λ (t : Aim). IsSound (target_looks t.pages)) (sym next_aim) (version_sound site (take closing.target.version old.journal.commits))

    pub next_elsewhere : IsSameElsewhere closing.touched (aim old) (aim_of closing.target)
    next_elsewhere = subst (IsSameElsewhere closing.touched (aim old)) (sym next_aim)
        (same_elsewhere site old.journal.commits old.target (Some closing.target.version) closing.touched
        (subst (λ (l : List (Path × Look)). SameElsewhere closing.touched (pages_at site old.journal.commits old.target) l) (looks_are next closing closes refl refl) closes.elsewhere))

    -- the work is closed, and what is changed then, with its bundles, was found
    pub keeps_closed : (new : Worked) (told : Told) (changed' : List Path) (bundles' : List (List Path)) (e : Logged) → IsStep (finish_step site old.work old.target) old told new → new.journal ≡ old.journal →
        new.target ≡ Some closing.target.version → e.log ≡ log → changed' ≡ changed_paths e (aim_of closing.target) → IsSchedule e (aim_of closing.target) bundles' →
        IsPress admits new log n changed' bundles'
    keeps_closed new told changed' bundles' e goes journal target same changed_is bundles_are =
        let aim_is : aim_of closing.target ≡ aim new = closing_aim new closing closes journal target in
        let site_is : new.journal.site ≡ site = ap (λ (j : Journaled). j.site) journal in
        record {
          changed = changed_is ∙ ap (λ (l : List Bundle). changed_paths (record { site = e.site; log = l }) (aim_of closing.target)) same ∙ ap (λ (t : Aim). changed_paths (record { site = e.site; log = log }) t) aim_is;
          bundles = other_edition bundles' e (logged new log) (aim new) same (subst (λ (t : Aim). IsSchedule e t bundles') aim_is bundles_are);
          published = is.published;
          good = subst (λ (s : Parts). IsGoodLog s log) (sym site_is) is.good;
          timely = subst (λ (s : Parts). IsTimely s (press_of log new)) (sym site_is)
              (subst (IsTimely site) (ap (λ (r : Told × Press). r.1) (goes log)) (timely_finished site old.work (world_of before) refl is.timely));
          admits = subst (λ (s : Parts). AdmitsGood s admits) (sym site_is) is.admits;
        }
