-- What a settle did before it ran out of memory, as events of the machine.
use Rattle.std.proofs.Common.{◌≡◌, ℕ, zero, suc, List, [], ◌∷◌, ◌++◌, Option, Some, None, refl, sym, ap, subst, ◌∙◌, append_assoc, append-nil}
use Rattle.std.specs.Prelude.{OnErr, Result, Ok, Err}
use Rattle.std.specs.List.{All, fold}
use Rattle.std.specs.FinMap as fin
use Rattle.std.proofs.lemmas.List.Elements.{All-append, All-cons, All-nil}
use Rattle.std.proofs.lemmas.List.Sums.{fold-append}
use Rattle.dup_names.specs.Words.{Path}
use Rattle.dup_names.specs.declared.object.Obj.{Obj}
use Rattle.dup_template.specs.declared.site.Parts.{Parts}
use Rattle.dup_model.specs.Bundles.{bundle}
use Rattle.dup_model.specs.Editions.{Bundle, bundle_of, edition, history}
use Rattle.dup_model.specs.Expansions.{notes}
use Rattle.dup_model.specs.Journal.{Limits}
use Rattle.dup_machine.specs.Press.{handed, hands_over, press_of, replied}
use Rattle.dup_machine.specs.Presses.{Press, begin_step, finish_step, hand_step, publish_by, target_by, version_of}
use Rattle.dup_machine.specs.Run.{step}
use Rattle.dup_machine.specs.World.{Event, Told, Work, World}
use Rattle.dup_machine.specs.World.Event.{Begin, Finish, Hand, Join, Publish, Put}
use Rattle.dup_press.specs.Pressed.{IsSamePlace, Pressed, pressed}
use Rattle.dup_press.specs.Reached.{HasReached, IsOfSettle, IsReached}
use Rattle.dup_press.specs.Turns.{IsTurn, IsWorking, Repeats, Turns, join_on, publish_on}
use Rattle.dup_press.proofs.Chains.{IsAt, one_step, turned}

module _ (site : Parts) where
  -- events of a settle lead from a world to one with this press, whose slot 0 is empty
  pub record Runs (limits : Limits) (w : World) (q : Press) : Type 0 where
    pub events : List Event
    pub settling : All IsOfSettle events
    pub at : IsAt site limits q (fold (step site limits) w events)

  pub record Ran (p q : Press) : Type 0 where
    pub runs : (limits : Limits) (w : World) → IsAt site limits p w → Runs limits w q
    pub commits : q.commits ≡ p.commits
    pub log : (more : List Bundle) × (p.log ++ more ≡ q.log)

  no_more : (p q : Press) → q.log ≡ p.log → (more : List Bundle) × (p.log ++ more ≡ q.log)
  no_more p q same = ([], append-nil p.log ∙ sym same)

  pub ran_none : (p q : Press) → p ≡ q → Ran p q
  ran_none p q same = record {
    runs = λ limits w at. record { events = []; settling = All-nil IsOfSettle; at = subst (λ (x : Press). IsAt site limits x w) same at };
    commits = ap (λ (x : Press). x.commits) (sym same);
    log = no_more p q (ap (λ (x : Press). x.log) (sym same));
  }

  pub ran_twice : (p q r : Press) → Ran p q → Ran q r → Ran p r
  ran_twice p q r one two = record {
    runs = λ limits w at.
        let a : Runs limits w q = one.runs limits w at in
        let b : Runs limits (fold (step site limits) w a.events) r = two.runs limits (fold (step site limits) w a.events) a.at in
        record {
          events = a.events ++ b.events;
          settling = All-append IsOfSettle a.events b.events a.settling b.settling;
          at = subst (IsAt site limits r) (sym (fold-append (step site limits) w a.events b.events)) b.at;
        };
    commits = two.commits ∙ one.commits;
    log = (one.log.0 ++ two.log.0, sym (append_assoc p.log one.log.0 two.log.0) ∙ ap (λ (l : List Bundle). l ++ two.log.0) one.log.1 ∙ two.log.1);
  }

  ran_one : (ev : Event) → IsOfSettle ev → (f : Press → Told × Press) →
      ((limits : Limits) (w : World) → step site limits w ev ≡ replied (f (press_of w)) w) →
      (p q : Press) (t : Told) → f p ≡ (t, q) → q.commits ≡ p.commits → (more : List Bundle) × (p.log ++ more ≡ q.log) → Ran p q
  ran_one ev of f acts p q t goes commits log = record {
    runs = λ limits w at. record {
      events = ev ∷ [];
      settling = All-cons IsOfSettle ev [] of (All-nil IsOfSettle);
      at = (one_step site limits ev f (acts limits) p q t w at goes).0;
    };
    commits = commits;
    log = log;
  }

  pub ran_begin : (p q : Press) (t : Told) → begin_step site p.work p.target p ≡ (t, q) → Ran p q
  ran_begin p q t goes =
      ran_one Begin tt (λ (x : Press). begin_step site x.work x.target x) (λ limits w. refl) p q t goes
      (ap (λ (r : Told × Press). r.1.commits) (sym goes)) (no_more p q (ap (λ (r : Told × Press). r.1.log) (sym goes)))

  pub ran_join : (p q : Press) (t : Told) → join_on site p ≡ (t, q) → Ran p q
  ran_join p q t goes =
      ran_one Join tt (join_on site) (λ limits w. refl) p q t goes
      (ap (λ (r : Told × Press). r.1.commits) (sym goes)) (no_more p q (ap (λ (r : Told × Press). r.1.log) (sym goes)))

  pub ran_finish : (p q : Press) (t : Told) → finish_step site p.work p.target p ≡ (t, q) → Ran p q
  ran_finish p q t goes =
      ran_one Finish tt (λ (x : Press). finish_step site x.work x.target x) (λ limits w. refl) p q t goes
      (ap (λ (r : Told × Press). r.1.commits) (sym goes)) (no_more p q (ap (λ (r : Told × Press). r.1.log) (sym goes)))

  pub ran_publish : (p q : Press) (t : Told) → publish_on site p ≡ (t, q) → Ran p q
  ran_publish p q t goes = by_bundle (bundle (edition p.log) (target_by site p.commits p.target)) goes
    where
      by_bundle : (o : Option (List Path)) → publish_by (target_by site p.commits p.target) (version_of p.target) o p ≡ (t, q) → Ran p q
      by_bundle None nothing =
          ran_one Publish tt (publish_on site) (λ limits w. refl) p q t goes
          (ap (λ (r : Told × Press). r.1.commits) (sym nothing)) (no_more p q (ap (λ (r : Told × Press). r.1.log) (sym nothing)))
      by_bundle (Some paths) sends =
          ran_one Publish tt (publish_on site) (λ limits w. refl) p q t goes
          (ap (λ (r : Told × Press). r.1.commits) (sym sends)) (_, ap (λ (r : Told × Press). r.1.log) sends)

  ran_turn : (p q : Press) → IsTurn site p q → Ran p q
  ran_turn p q t = record {
    runs = λ limits w at. record {
      events = Hand 0 ∷ Put 0 ∷ [];
      settling = All-cons IsOfSettle (Hand 0) (Put 0 ∷ []) refl (All-cons IsOfSettle (Put 0) [] refl (All-nil IsOfSettle));
      at = turned site limits p q w at t;
    };
    commits = ap (λ (x : Press). x.commits) (sym t.brought) ∙ ap (λ (r : Option Obj × Press). r.1.commits) (sym t.handed);
    log = no_more p q (ap (λ (x : Press). x.log) (sym t.brought) ∙ ap (λ (r : Option Obj × Press). r.1.log) (sym t.handed));
  }

  pub ran_turns : (k : ℕ) (p q : Press) → Turns site k p q → Ran p q
  ran_turns zero p q same = ran_none p q same
  ran_turns (suc k) p q (mid, (turns, turn)) = ran_twice p mid q (ran_turns k p mid turns) (ran_turn mid q turn)

  ran_repeats : (f : Press → Told × Press) (end : Told) → ((p q : Press) (t : Told) → f p ≡ (t, q) → Ran p q) →
      (n : ℕ) (p q : Press) → Repeats f end n p q → Ran p q
  ran_repeats f end once zero p q same = ran_none p q same
  ran_repeats f end once (suc n) p q (mid, (t, (before, is, other))) =
      ran_twice p mid q (ran_repeats f end once n p mid before) (once mid q t is)

  pub ran_joins : (end : Told) (n : ℕ) (p q : Press) → Repeats (join_on site) end n p q → Ran p q
  ran_joins end = ran_repeats (join_on site) end ran_join

  pub ran_publishes : (end : Told) (n : ℕ) (p q : Press) → Repeats (publish_on site) end n p q → Ran p q
  ran_publishes end = ran_repeats (publish_on site) end ran_publish

module _ (old now new : Pressed) (ran : Ran old.works.journal.site (pressed old) (pressed now)) where
  abbrev here : Parts
  here = old.works.journal.site

  -- where the last call changed nothing
  pub reached_here : new ≡ now → IsReached old new
  reached_here same = subst (IsReached old) (sym same) (record {
    reached = λ limits w press slot.
        let a : Runs here limits w (pressed now) = ran.runs limits w (record { press = press; slot = slot }) in
        record { events = a.events; settling = a.settling; press = a.at.press };
    commits = ran.commits;
    log = ran.log;
  })

  -- where more was done from there
  pub reached_onward : IsSamePlace old now → IsReached now new → IsReached old new
  reached_onward same onward = record {
    reached = λ limits w press slot.
        let a : Runs here limits w (pressed now) = ran.runs limits w (record { press = press; slot = slot }) in
        let v : World = fold (step here limits) w a.events in
        let b : HasReached now new limits v = onward.reached limits v a.at.press a.at.slot in
        record {
          events = a.events ++ b.events;
          settling = All-append IsOfSettle a.events b.events a.settling b.settling;
          press = ap press_of (fold-append (step here limits) w a.events b.events)
              ∙ ap (λ (s : Parts). press_of (fold (step s limits) v b.events)) (sym same.site) ∙ b.press;
        };
    commits = onward.commits ∙ ran.commits;
    log = (ran.log.0 ++ onward.log.0, sym (append_assoc old.log ran.log.0 onward.log.0) ∙ ap (λ (l : List Bundle). l ++ onward.log.0) ran.log.1 ∙ onward.log.1);
  }

  -- where an object was handed and its expansion not brought back
  pub reached_in_hand : (work : Work) → now.works.work ≡ Some work → (o : Obj) →
      hand_step here now.works.work now.works.target (pressed now) ≡ (Some o, pressed new) → IsReached old new
  reached_in_hand work busy o goes = record {
    reached = λ limits w press slot.
        let a : Runs here limits w (pressed now) = ran.runs limits w (record { press = press; slot = slot }) in
        let v : World = fold (step here limits) w a.events in
        let hand_goes : step here limits v (Hand 0) ≡ hands_over 0 work.version (Some o, pressed new) v =
        (λ i. handed here 0 ((ap (λ (x : Press). x.work) a.at.press ∙ busy) i) (a.at.slot i) v)
        ∙ ap (λ (r : Option Obj × Press). hands_over 0 work.version r v)
        ((λ i. hand_step here (sym busy i) (a.at.press i).target (a.at.press i)) ∙ goes) in
        record {
          events = a.events ++ Hand 0 ∷ [];
          settling = All-append IsOfSettle a.events (Hand 0 ∷ []) a.settling (All-cons IsOfSettle (Hand 0) [] refl (All-nil IsOfSettle));
          press = ap press_of (fold-append (step here limits) w a.events (Hand 0 ∷ []) ∙ hand_goes);
        };
    commits = ap (λ (r : Option Obj × Press). r.1.commits) (sym goes) ∙ ran.commits;
    log = (ran.log.0, ran.log.1 ∙ ap (λ (r : Option Obj × Press). r.1.log) goes);
  }

-- whether or not a call failed
pub whatever : {T : Type 0} {E : Type 0} {P : Type 0} (result : Result T E) → P → OnErr result P
whatever (Ok x) is = tt
whatever (Err e) is = is
