-- What each step of the press keeps.
use Rattle.std.proofs.Common.{◌≡◌, ℕ, ◌≤◌, ◌==◌, Bool, true, false, cond, List, [], ◌∷◌, ◌++◌, Option, Some, None, length, take, drop, refl, sym, ap, subst, ◌∙◌, arith, append_assoc}
use Rattle.std.proofs.lemmas.Option.{none-some}
use Rattle.std.proofs.lemmas.List.{take-append-le}
use Rattle.std.specs.FinMap as fin
use Rattle.dup_names.specs.declared.object.Obj.{Obj}
use Rattle.dup_names.specs.declared.object.Item.{Item}
use Rattle.dup_template.specs.declared.value.Value.{Value}
use Rattle.dup_template.specs.declared.site.Parts.{Parts}
use Rattle.dup_model.specs.Content.{Content}
use Rattle.dup_model.specs.Commits.{Commit, Refusal}
use Rattle.dup_model.specs.Versions.{IsHistory, content}
use Rattle.dup_model.specs.Journal.{Limits, commit_refusal}
use Rattle.dup_model.specs.Editions.{history}
use Rattle.dup_model.specs.Answers.{Reply}
use Rattle.dup_names.specs.Objects.{is_in}
use Rattle.dup_machine.specs.World.{World, Work, Slot, Told, answered}
use Rattle.dup_machine.specs.World.Told.{Begins, Unasked}
use Rattle.dup_machine.specs.World.Begun.{Same, Nothing, Opened}
use Rattle.dup_model.specs.Found.{waiting}
use Rattle.dup_model.specs.Expansions.{notes, stale}
use Rattle.dup_machine.specs.Works.{unjoined, level, first_work, work_from, moved, next_of}
use Rattle.dup_machine.proofs.WorldSteps.{begun_next, begun_open, put_asked}
use Rattle.dup_machine.specs.Press.{at, press_of, committed, opened, begun, handed_to, handed, kept, put_back, put_from, joined_by, joined, finished_by, finished}
use Rattle.dup_machine.specs.Presses.{Press, version_of}
use Rattle.dup_machine.specs.Timely as timely
use Rattle.dup_machine.specs.Timely.{IsWorkWithin}
use Rattle.dup_model.proofs.Lists.{length_snoc, front_longer}
use Rattle.dup_model.proofs.Histories.{fits_unless_refused, history_push}

-- what holds of the press of a world
abbrev pub IsTimely : Parts → World → Type 0
IsTimely site w = timely.IsTimely site (press_of w)

-- the answer to a request, if it is one
abbrev pub reply_of : Told → Option Reply
reply_of (Told.Found e page how) = Some (Reply.Found e page how)
reply_of (Told.Absent e) = Some (Reply.Absent e)
reply_of (Told.Ahead pass e) = Some (Reply.Ahead pass e)
reply_of _ = None

pub reply_answered : (r : Reply) → reply_of (answered r) ≡ Some r
reply_answered (Reply.Found e page how) = refl
reply_answered (Reply.Absent e) = refl
reply_answered (Reply.Ahead pass e) = refl

-- a step that changes no log and no node, and answers no request
pub record Quiet (w new : World) : Type 0 where
  pub log : new.log ≡ w.log
  pub nodes : new.nodes ≡ w.nodes
  pub reply : Told
  pub told_it : new.replies ≡ w.replies ++ reply ∷ []
  pub other : reply_of reply ≡ None

module _ (site : Parts) where
  pub quiet_committed : (c : Commit) (why : Option Refusal) (w : World) → Quiet w (committed c why w)
  quiet_committed c (Some why) w = record { log = refl; nodes = refl; reply = _; told_it = refl; other = refl }
  quiet_committed c None w = record { log = refl; nodes = refl; reply = _; told_it = refl; other = refl }

  quiet_if : (b : Bool) (w x y : World) → Quiet w x → Quiet w y → Quiet w (cond b x y)
  quiet_if true w x y p q = p
  quiet_if false w x y p q = q

  quiet_opened : (work : Work) (w : World) → Quiet w (opened site work w)
  quiet_opened work w = record { log = refl; nodes = refl; reply = Begins (Opened work.version (length (waiting (content site w.commits) work.done))); told_it = refl; other = refl }

  pub quiet_begun : (work : Option Work) (target : Option ℕ) (w : World) → Quiet w (begun site work target w)
  quiet_begun (Some work) target w =
      subst (Quiet w) (sym (begun_open site work target w)) (quiet_if (work.version == length w.commits) w _ _
      (record { log = refl; nodes = refl; reply = Begins (Same work.version); told_it = refl; other = refl })
      (quiet_opened (moved (at site w work.version) (length w.commits) (content site w.commits) work) w))
  quiet_begun None None w = quiet_opened (first_work (length w.commits)) w
  quiet_begun None (Some a) w =
      subst (Quiet w) (sym (begun_next site a w)) (quiet_if (a == length w.commits) w _ _
      (record { log = refl; nodes = refl; reply = Begins (Nothing a); told_it = refl; other = refl })
      (quiet_opened (work_from (at site w a) (length w.commits) (content site w.commits)) w))

  quiet_handed_to : (slot : ℕ) (work : Work) (o : Option Obj) (w : World) → Quiet w (handed_to site slot work o w)
  quiet_handed_to slot work None w = record { log = refl; nodes = refl; reply = _; told_it = refl; other = refl }
  quiet_handed_to slot work (Some o) w = record { log = refl; nodes = refl; reply = _; told_it = refl; other = refl }

  pub quiet_handed : (slot : ℕ) (work : Option Work) (held : Option Slot) (w : World) → Quiet w (handed site slot work held w)
  quiet_handed slot work (Some held) w = record { log = refl; nodes = refl; reply = _; told_it = refl; other = refl }
  quiet_handed slot None None w = record { log = refl; nodes = refl; reply = _; told_it = refl; other = refl }
  quiet_handed slot (Some work) None w = quiet_handed_to slot work (next_of work.last_handed (waiting (at site w work.version) work.done)) w

  quiet_kept : (c : Content) (o : Obj) (work : Work) (why : Option (Item × Value)) (w : World) → Quiet w (kept c o work why w)
  quiet_kept c o work (Some note) w = record { log = refl; nodes = refl; reply = _; told_it = refl; other = refl }
  quiet_kept c o work None w = record { log = refl; nodes = refl; reply = _; told_it = refl; other = refl }

  pub quiet_put_back : (o : Obj) (ns : List (Item × Value)) (work : Option Work) (w : World) → Quiet w (put_back site o ns work w)
  quiet_put_back o ns None w = record { log = refl; nodes = refl; reply = _; told_it = refl; other = refl }
  quiet_put_back o ns (Some work) w =
      subst (Quiet w) (sym (put_asked site o ns work w)) (quiet_if (is_in (waiting (at site w work.version) work.done) o) w _ _
      (quiet_kept (at site w work.version) o work (stale (at site w work.version) ns) w)
      (record { log = refl; nodes = refl; reply = Unasked o; told_it = refl; other = refl }))

  pub quiet_put_from : (slot : ℕ) (held : Option Slot) (w : World) → Quiet w (put_from site slot held w)
  quiet_put_from slot None w = record { log = refl; nodes = refl; reply = _; told_it = refl; other = refl }
  quiet_put_from slot (Some held) w =
      let emptied : World = record w { slots = fin.remove w.slots slot } in
      let q : Quiet emptied (put_back site held.obj (notes (at site w held.version) held.obj) w.work emptied) = quiet_put_back held.obj (notes (at site w held.version) held.obj) w.work emptied in
      record { log = q.log; nodes = q.nodes; reply = q.reply; told_it = q.told_it; other = q.other }

  quiet_joined_by : (work : Work) (os us level : List Obj) (w : World) → Quiet w (joined_by site work os us level w)
  quiet_joined_by work (o ∷ os) us level w = record { log = refl; nodes = refl; reply = _; told_it = refl; other = refl }
  quiet_joined_by work [] [] level w = record { log = refl; nodes = refl; reply = _; told_it = refl; other = refl }
  quiet_joined_by work [] (u ∷ us) level w = record { log = refl; nodes = refl; reply = _; told_it = refl; other = refl }

  pub quiet_joined : (work : Option Work) (w : World) → Quiet w (joined site work w)
  quiet_joined None w = record { log = refl; nodes = refl; reply = _; told_it = refl; other = refl }
  quiet_joined (Some work) w =
      let c : Content = at site w work.version in
      quiet_joined_by work (waiting (at site w work.version) work.done) (unjoined (at site w work.version) work) (level (at site w work.version) work) w

  quiet_finished_by : (c : Content) (work : Work) (os us : List Obj) (w : World) → Quiet w (finished_by c work os us w)
  quiet_finished_by c work (o ∷ os) us w = record { log = refl; nodes = refl; reply = _; told_it = refl; other = refl }
  quiet_finished_by c work [] (u ∷ us) w = record { log = refl; nodes = refl; reply = _; told_it = refl; other = refl }
  quiet_finished_by c work [] [] w = record { log = refl; nodes = refl; reply = _; told_it = refl; other = refl }

  pub quiet_finished : (work : Option Work) (w : World) → Quiet w (finished site work w)
  quiet_finished None w = record { log = refl; nodes = refl; reply = _; told_it = refl; other = refl }
  quiet_finished (Some work) w = quiet_finished_by (at site w work.version) work (waiting (at site w work.version) work.done) (unjoined (at site w work.version) work) w

  -- the times

  IsWorkWithin-more : (work : Option Work) (low high more : ℕ) → high ≤ more → IsWorkWithin work low high → IsWorkWithin work low more
  IsWorkWithin-more None low high more h is = tt
  IsWorkWithin-more (Some work) low high more h is = (is.0, omega (arith, is.1))

  pub timely_committed : (limits : Limits) (c : Commit) (why : Option Refusal) (w : World) → commit_refusal site limits w.commits c ≡ why → IsTimely site w → IsTimely site (committed c why w)
  timely_committed limits c (Some why) w is t = record { allowed = t.allowed; covered = t.covered; target_within = t.target_within; work_within = t.work_within; unpublished = t.unpublished }
  timely_committed limits c None w is t = record {
    allowed = history_push site w.commits c (fits_unless_refused site limits w.commits c is) t.allowed;
    covered = (t.covered.0, t.covered.1 ∙ sym (take-append-le (version_of w.target) w.commits (c ∷ []) t.target_within));
    target_within = omega (arith, t.target_within, length_snoc w.commits c);
    work_within = IsWorkWithin-more w.work (version_of w.target) (length w.commits) _ (omega (arith, length_snoc w.commits c)) t.work_within;
    unpublished = t.unpublished;
  }

  -- a step that changes the work alone
  pub timely_work : (w new : Press) → new.commits ≡ w.commits → new.target ≡ w.target → new.log ≡ w.log → IsWorkWithin new.work (version_of new.target) (length new.commits) → timely.IsTimely site w → timely.IsTimely site new
  timely_work w new c t l within old = record {
    allowed = subst (IsHistory site) (sym c) old.allowed;
    covered = (old.covered.0, rw (c, t, l) old.covered.1);
    target_within = rw (c, t) old.target_within;
    work_within = within;
    unpublished = λ none. l ∙ old.unpublished (sym t ∙ none);
  }

  timely_if : (b : Bool) (x y : World) → IsTimely site x → IsTimely site y → IsTimely site (cond b x y)
  timely_if true x y p q = p
  timely_if false x y p q = q

  timely_opened : (work : Work) (w : World) → (version_of w.target ≤ work.version) × (work.version ≤ length w.commits) → IsTimely site w → IsTimely site (opened site work w)
  timely_opened work w within t = timely_work (press_of w) _ refl refl refl within t

  pub timely_begun : (work : Option Work) (target : Option ℕ) (w : World) → IsTimely site w → IsTimely site (begun site work target w)
  timely_begun (Some work) target w t =
      subst (IsTimely site) (sym (begun_open site work target w)) (timely_if (work.version == length w.commits) _ _
      (timely_work (press_of w) _ refl refl refl t.work_within t)
      (timely_opened (moved (at site w work.version) (length w.commits) (content site w.commits) work) w (t.target_within, omega arith) t))
  timely_begun None None w t = timely_opened (first_work (length w.commits)) w (t.target_within, omega arith) t
  timely_begun None (Some a) w t =
      subst (IsTimely site) (sym (begun_next site a w)) (timely_if (a == length w.commits) _ _
      (timely_work (press_of w) _ refl refl refl t.work_within t)
      (timely_opened (work_from (at site w a) (length w.commits) (content site w.commits)) w (t.target_within, omega arith) t))

  work_at : (work : Work) (w : World) → w.work ≡ Some work → IsTimely site w → (version_of w.target ≤ work.version) × (work.version ≤ length w.commits)
  work_at work w is t = subst (λ work. IsWorkWithin work (version_of w.target) (length w.commits)) is t.work_within

  timely_handed_to : (slot : ℕ) (work : Work) (o : Option Obj) (w : World) → w.work ≡ Some work → IsTimely site w → IsTimely site (handed_to site slot work o w)
  timely_handed_to slot work None w is t = timely_work (press_of w) _ refl refl refl t.work_within t
  timely_handed_to slot work (Some o) w is t = timely_work (press_of w) _ refl refl refl (work_at work w is t) t

  pub timely_handed : (slot : ℕ) (work : Option Work) (held : Option Slot) (w : World) → w.work ≡ work → IsTimely site w → IsTimely site (handed site slot work held w)
  timely_handed slot work (Some held) w is t = timely_work (press_of w) _ refl refl refl t.work_within t
  timely_handed slot None None w is t = timely_work (press_of w) _ refl refl refl t.work_within t
  timely_handed slot (Some work) None w is t = timely_handed_to slot work (next_of work.last_handed (waiting (at site w work.version) work.done)) w is t

  timely_kept : (c : Content) (o : Obj) (work : Work) (why : Option (Item × Value)) (w : World) → w.work ≡ Some work → IsTimely site w → IsTimely site (kept c o work why w)
  timely_kept c o work (Some note) w is t = timely_work (press_of w) _ refl refl refl t.work_within t
  timely_kept c o work None w is t = timely_work (press_of w) _ refl refl refl (work_at work w is t) t

  pub timely_put_back : (o : Obj) (ns : List (Item × Value)) (work : Option Work) (w : World) → w.work ≡ work → IsTimely site w → IsTimely site (put_back site o ns work w)
  timely_put_back o ns None w is t = timely_work (press_of w) _ refl refl refl t.work_within t
  timely_put_back o ns (Some work) w is t =
      subst (IsTimely site) (sym (put_asked site o ns work w)) (timely_if (is_in (waiting (at site w work.version) work.done) o) _ _
      (timely_kept (at site w work.version) o work (stale (at site w work.version) ns) w is t)
      (timely_work (press_of w) _ refl refl refl t.work_within t))

  pub timely_put_from : (slot : ℕ) (held : Option Slot) (w : World) → IsTimely site w → IsTimely site (put_from site slot held w)
  timely_put_from slot None w t = timely_work (press_of w) _ refl refl refl t.work_within t
  timely_put_from slot (Some held) w t =
      let emptied : World = record w { slots = fin.remove w.slots slot } in
      timely_put_back held.obj (notes (at site w held.version) held.obj) w.work emptied refl (timely_work (press_of w) (press_of emptied) refl refl refl t.work_within t)

  timely_joined_by : (work : Work) (os us level : List Obj) (w : World) → w.work ≡ Some work → IsTimely site w → IsTimely site (joined_by site work os us level w)
  timely_joined_by work (o ∷ os) us level w is t = timely_work (press_of w) _ refl refl refl t.work_within t
  timely_joined_by work [] [] level w is t = timely_work (press_of w) _ refl refl refl t.work_within t
  timely_joined_by work [] (u ∷ us) level w is t = timely_work (press_of w) _ refl refl refl (work_at work w is t) t

  pub timely_joined : (work : Option Work) (w : World) → w.work ≡ work → IsTimely site w → IsTimely site (joined site work w)
  timely_joined None w is t = timely_work (press_of w) _ refl refl refl t.work_within t
  timely_joined (Some work) w is t =
      timely_joined_by work (waiting (at site w work.version) work.done) (unjoined (at site w work.version) work) (level (at site w work.version) work) w is t

  timely_finished_by : (c : Content) (work : Work) (os us : List Obj) (w : World) → w.work ≡ Some work → IsTimely site w → IsTimely site (finished_by c work os us w)
  timely_finished_by c work (o ∷ os) us w is t = timely_work (press_of w) _ refl refl refl t.work_within t
  timely_finished_by c work [] (u ∷ us) w is t = timely_work (press_of w) _ refl refl refl t.work_within t
  timely_finished_by c work [] [] w is t =
      let within : (version_of w.target ≤ work.version) × (work.version ≤ length w.commits) = work_at work w is t in
      record {
        allowed = t.allowed;
        covered = (
          t.covered.0 ++ drop (version_of w.target) (take work.version w.commits),
          sym (append_assoc (history w.log) t.covered.0 _) ∙ ap (λ l. l ++ drop (version_of w.target) (take work.version w.commits)) t.covered.1
              ∙ front_longer (version_of w.target) work.version w.commits within.0,
        );
        target_within = within.1;
        work_within = tt;
        unpublished = λ none. absurd (none-some work.version (sym none));
      }

  pub timely_finished : (work : Option Work) (w : World) → w.work ≡ work → IsTimely site w → IsTimely site (finished site work w)
  timely_finished None w is t = timely_work (press_of w) _ refl refl refl t.work_within t
  timely_finished (Some work) w is t =
      timely_finished_by (at site w work.version) work (waiting (at site w work.version) work.done) (unjoined (at site w work.version) work) w is t
