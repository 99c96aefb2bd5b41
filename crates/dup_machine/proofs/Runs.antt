-- The headline over every list of events.
use Rattle.std.proofs.Common.{◌≡◌, ◌⊎◌, ℕ, zero, suc, ◌≤◌, inl, inr, List, [], ◌∷◌, ◌++◌, Some, length, take, drop, refl, sym, ap, subst, ◌∙◌, arith, append_assoc}
use Rattle.std.specs.List.{slice_get}
use Rattle.std.specs.Prelude.{⊤}
use Rattle.std.specs.Option.{MatchOption}
use Rattle.std.proofs.lemmas.Bool.{not-false}
use Rattle.std.proofs.lemmas.Option.{none-some, same_Some, slice_get_within}
use Rattle.std.proofs.lemmas.List.{take-append-le, take-append-drop, length-append}
use Rattle.std.proofs.lemmas.List.Sums.{fold-append}
use Rattle.std.proofs.Math.Seq.{take-length}
use Rattle.std.specs.Ordering.{nat_cmp}
use Rattle.std.specs.FinMap as fin
use Rattle.dup_template.specs.declared.site.Parts.{Parts}
use Rattle.dup_names.specs.Words.{Path}
use Rattle.dup_model.specs.Journal.{Limits}
use Rattle.dup_model.specs.Needs.{same_look}
use Rattle.dup_model.specs.Editions.{Bundle, edition, history}
use Rattle.dup_model.specs.Answers.{Reply}
use Rattle.dup_model.specs.Answers.Reply.{Found, Absent, Ahead}
use Rattle.dup_machine.specs.World.{World, Event, Told, first_world}
use Rattle.dup_machine.specs.Presses.{version_of}
use Rattle.dup_machine.specs.Timely.{PressesAreTimely}
use Rattle.dup_machine.specs.Run.{step, run}
use Rattle.dup_machine.specs.Headline.{EachEventIsAnswered, LogGrows, Replied, LogIsGood, RepliesAreTrue, AheadIsTrue, SettledIsWhole, Headline}
use Rattle.dup_model.proofs.Lists.{get_snoc, get_last, get_back, length_snoc, take_all_snoc}
use Rattle.dup_model.proofs.Push.{good_empty, upto_snoc}
use Rattle.dup_names.proofs.ObjectOrder.{option_same}
use Rattle.dup_model.proofs.Sound.{look_same}
use Rattle.dup_model.proofs.Caching.{FairReply}
use Rattle.dup_machine.proofs.PressSteps.{reply_answered}
use Rattle.dup_machine.proofs.Machine.{IsFit, Steps, FairTold, fit_step, no_more}

-- what holds of no event, and of one more whenever it holds, holds of each list
by_snoc : {A : Type 0} (P : List A → Type 0) → P [] → ((xs : List A) (x : A) → P xs → P (xs ++ x ∷ [])) → (xs : List A) → P xs
by_snoc {A} P start more xs = onward [] xs start
  where
    onward : (front rest : List A) → P front → P (front ++ rest)
    onward front [] is = subst P (no_more front) is
    onward front (x ∷ rest) is = subst P (append_assoc front (x ∷ []) rest) (onward (front ++ x ∷ []) rest (more front x is))

module _ (site : Parts) (limits : Limits) where
  run_snoc : (events : List Event) (ev : Event) → run site limits (events ++ ev ∷ []) ≡ step site limits (run site limits events) ev
  run_snoc events ev = fold-append (step site limits) first_world events (ev ∷ [])

  -- a run so far: a fit state, one reply for each event, each of them fair at its log, which the log goes on
  record IsRun (events : List Event) (w : World) : Type 0 where
    pub fit : IsFit site limits w
    pub counted : length w.replies ≡ length events
    pub grown : (i : ℕ) → i ≤ length events → (more : List Bundle) × ((run site limits (take i events)).log ++ more ≡ w.log)
    pub fair : (i : ℕ) (ev : Event) (t : Told) → slice_get events i ≡ Some ev → slice_get w.replies i ≡ Some t → FairTold (run site limits (take i events)).log ev t

  fit_start : IsFit site limits first_world
  fit_start = record {
    good = good_empty site;
    timely = record { allowed = record { fits = λ k c is. absurd (none-some c is) }; covered = ([], refl); target_within = omega arith; work_within = tt; unpublished = λ is. refl };
    caches = λ number cache is. absurd (none-some cache (sym (fin.get-empty nat_cmp number) ∙ is));
  }

  run_none : IsRun [] first_world
  run_none = record {
    fit = fit_start;
    counted = refl;
    grown = λ i h. ([], sym (no_more _) ∙ ap (λ l. (run site limits l).log) (take_nil i));
    fair = λ i ev t is _. absurd (none-some ev is);
  }
    where
      take_nil : (i : ℕ) → take {A = Event} i [] ≡ []
      take_nil zero = refl
      take_nil (suc i) = refl

  module _ (events : List Event) (ev : Event) (r : IsRun events (run site limits events)) where
    both : IsFit site limits (step site limits (run site limits events) ev) × Steps (run site limits events) ev (step site limits (run site limits events) ev)
    both = fit_step site limits (run site limits events) r.fit ev

    grown_step : (i : ℕ) → i ≤ length (events ++ ev ∷ []) → (more : List Bundle) × ((run site limits (take i (events ++ ev ∷ []))).log ++ more ≡ (step site limits (run site limits events) ev).log)
    grown_step i h = elim (upto_snoc events ev i h) [
      | inl within ↦
          let old : (more : List Bundle) × ((run site limits (take i events)).log ++ more ≡ (run site limits events).log) = r.grown i within in (
            old.0 ++ both.1.more,
            ap (λ l. (run site limits l).log ++ (old.0 ++ both.1.more)) (take-append-le i events (ev ∷ []) within)
                ∙ sym (append_assoc (run site limits (take i events)).log old.0 both.1.more) ∙ ap (λ l. l ++ both.1.more) old.1 ∙ sym both.1.log,
          )
      | inr one_more ↦ ([], sym (no_more _) ∙ ap (λ l. (run site limits l).log) (ap (λ i. take i (events ++ ev ∷ [])) one_more ∙ take_all_snoc events ev) ∙ ap (λ w. w.log) (run_snoc events ev))
    ]

    fair_step : (i : ℕ) (e : Event) (t : Told) → slice_get (events ++ ev ∷ []) i ≡ Some e → slice_get (step site limits (run site limits events) ev).replies i ≡ Some t →
        FairTold (run site limits (take i (events ++ ev ∷ []))).log e t
    fair_step i e t event_is reply_is =
        let replied : slice_get ((run site limits events).replies ++ both.1.reply ∷ []) i ≡ Some t = ap (λ l. slice_get l i) (sym both.1.told_it) ∙ reply_is in
        elim (get_snoc events ev i e event_is) [
          | inl before ↦ subst (λ l. FairTold (run site limits l).log e t) (sym (take-append-le i events (ev ∷ []) (omega (arith, before.0))))
              (r.fair i e t before.1 (get_back (run site limits events).replies (both.1.reply ∷ []) i t (omega (arith, before.0, r.counted)) replied))
          | inr last ↦
              let same : both.1.reply ≡ t = same_Some _ t (sym (get_last (run site limits events).replies both.1.reply) ∙ ap (slice_get ((run site limits events).replies ++ both.1.reply ∷ [])) (r.counted ∙ sym last.0) ∙ replied) in
              let here : take i (events ++ ev ∷ []) ≡ events = ap (λ i. take i (events ++ ev ∷ [])) last.0 ∙ take-append-le (length events) events (ev ∷ []) (omega arith) ∙ take-length events in
              subst (λ l. FairTold (run site limits l).log e t) (sym here) (subst (FairTold (run site limits events).log e) same (subst (λ e. FairTold (run site limits events).log e both.1.reply) last.1 both.1.fair))
        ]

    run_step : IsRun (events ++ ev ∷ []) (run site limits (events ++ ev ∷ []))
    run_step = subst (IsRun (events ++ ev ∷ [])) (sym (run_snoc events ev)) (record {
      fit = both.0;
      counted = ap length both.1.told_it ∙ length_snoc (run site limits events).replies both.1.reply ∙ ap suc r.counted ∙ sym (length_snoc events ev);
      grown = grown_step;
      fair = fair_step;
    })

  is_run : (events : List Event) → IsRun events (run site limits events)
  is_run = by_snoc (λ events. IsRun events (run site limits events)) run_none run_step

  module _ (events : List Event) where
    log_good : LogIsGood site limits events
    log_good =
        let t : IsRun events (run site limits events) = is_run events in (
          t.fit.good,
          (
            t.fit.timely.covered.0 ++ drop (version_of (run site limits events).target) (run site limits events).commits,
            sym (append_assoc (history (run site limits events).log) t.fit.timely.covered.0 _) ∙ ap (λ l. l ++ drop (version_of (run site limits events).target) (run site limits events).commits) t.fit.timely.covered.1
                ∙ take-append-drop (version_of (run site limits events).target) (run site limits events).commits,
          ),
        )

    -- a reply was fair at the log of its step, which is a front of the last
    at_step : (i pass : ℕ) (path : Path) (reply : Reply) → Replied events (run site limits events).replies i pass path reply →
        FairReply (run site limits (take i events)).log pass path reply × ((more : List Bundle) × ((run site limits (take i events)).log ++ more ≡ (run site limits events).log))
    at_step i pass path reply (node, (keeps, event_is, reply_is)) =
        (subst (λ o. MatchOption o ⊤ (λ r. FairReply (run site limits (take i events)).log pass path r)) (reply_answered reply) ((is_run events).fair i _ _ event_is reply_is), (is_run events).grown i (omega (arith, slice_get_within events i _ event_is)))

    front_page : (log more all : List Bundle) → log ++ more ≡ all → (e : ℕ) → e ≤ length log → (path : Path) → fin.get (edition (take e all)) path ≡ fin.get (edition (take e log)) path
    front_page log more all is e h path = ap (λ l. fin.get (edition l) path) (ap (take e) (sym is) ∙ take-append-le e log more h)

    front_long : (log more all : List Bundle) → log ++ more ≡ all → (e : ℕ) → e ≤ length log → e ≤ length all
    front_long log more all is e h = omega (arith, h, length-append log more, ap length is)

    replies_true : RepliesAreTrue site limits events
    unfolding FairReply
    replies_true = (
      λ i pass e path page how replied.
          let at : FairReply (run site limits (take i events)).log pass path (Found e page how) × ((more : List Bundle) × ((run site limits (take i events)).log ++ more ≡ (run site limits events).log)) = at_step i pass path (Found e page how) replied in
          (at.0.0, front_long _ at.1.0 _ at.1.1 e at.0.1, front_page _ at.1.0 _ at.1.1 e at.0.1 path ∙ at.0.2),
      λ i pass e path replied.
          let at : FairReply (run site limits (take i events)).log pass path (Absent e) × ((more : List Bundle) × ((run site limits (take i events)).log ++ more ≡ (run site limits events).log)) = at_step i pass path (Absent e) replied in
          (at.0.0, front_long _ at.1.0 _ at.1.1 e at.0.1, front_page _ at.1.0 _ at.1.1 e at.0.1 path ∙ at.0.2),
    )

    ahead_true : AheadIsTrue site limits events
    unfolding FairReply
    ahead_true i pass named e path replied =
        let at : FairReply (run site limits (take i events)).log pass path (Ahead named e) × ((more : List Bundle) × ((run site limits (take i events)).log ++ more ≡ (run site limits events).log)) = at_step i pass path (Ahead named e) replied in
        (at.0.1, at.0.2, at.0.0)

    settled_whole : SettledIsWhole site limits events
    settled_whole pending p = option_same same_look look_same _ _ (not-false _ (pending.published p))

pub headline : Headline
headline site limits events = (log_good site limits events, replies_true site limits events, ahead_true site limits events, settled_whole site limits events)

pub each_answered : EachEventIsAnswered
each_answered site limits events = (is_run site limits events).counted

-- all events, where there are no more than i
short_or_long : (i : ℕ) (events : List Event) → (i ≤ length events) ⊎ (take i events ≡ events)
short_or_long zero events = inl (omega arith)
short_or_long (suc i) [] = inr refl
short_or_long (suc i) (ev ∷ events) = elim (short_or_long i events) [ inl short ↦ inl (omega (arith, short)) | inr all ↦ inr (ap (λ l. ev ∷ l) all) ]

pub log_grows : LogGrows
log_grows site limits events i = elim (short_or_long i events) [
  | inl short ↦ (is_run site limits events).grown i short
  | inr all ↦ ([], sym (no_more _) ∙ ap (λ l. (run site limits l).log) all)
]

pub presses_are_timely : PressesAreTimely
presses_are_timely site limits events = (is_run site limits events).fit.timely
