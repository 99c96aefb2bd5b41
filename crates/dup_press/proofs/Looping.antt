-- What the loops of a settle have done so far.
use Rattle.std.proofs.Common.{◌≡◌, ℕ, zero, suc, ◌+◌, ◌<◌, List, [], ◌∷◌, ◌++◌, Option, Some, None, length, drop, take, refl, sym, ap, subst, ◌∙◌}
use Rattle.dup_names.specs.Words.{Path}
use Rattle.dup_names.specs.declared.object.Obj.{Obj}
use Rattle.dup_template.specs.declared.site.Parts.{Parts}
use Rattle.dup_model.specs.Commits.{Commit}
use Rattle.dup_model.specs.Content.{Content}
use Rattle.dup_model.specs.Bundles as definition
use Rattle.dup_model.specs.Editions.{Bundle, bundle_of, edition, history}
use Rattle.dup_model.specs.Expansions.{notes}
use Rattle.dup_model.specs.Versions.{version}
use Rattle.dup_machine.specs.Presses.{Press, begun_version, finish_step, hand_step, join_step, publish_by, publish_step, put_step, target_by, version_of}
use Rattle.dup_machine.specs.Works.{level, with_joined}
use Rattle.dup_machine.specs.World.{Counts, Joined, Told, Work}
use Rattle.dup_machine.specs.World as machine
use Rattle.dup_machine.specs.World.Ended.{Report}
use Rattle.dup_build.specs.Answers.{begun_told, finish_told, joined_told}
use Rattle.dup_build.specs.declared.answers.Begun.{Begun}
use Rattle.dup_build.specs.declared.answers.Begun.TheVariants as begun
use Rattle.dup_build.specs.declared.answers.Finish.{Finish}
use Rattle.dup_build.specs.declared.answers.Finish.TheVariants as finish
use Rattle.dup_build.specs.declared.answers.Joined.{Joined as Answer}
use Rattle.dup_build.specs.declared.answers.Joined.TheVariants as answer
use Rattle.dup_template.specs.Frame.{frame_of}
use Rattle.dup_model.proofs.Histories.{content_frame}
use Rattle.dup_machine.specs.World.Joined.{Done, Level}
use Rattle.dup_machine.specs.World.Told.{Joins, NothingChanged, Published}
use Rattle.dup_bundle.specs.Between.{bundle, changed_paths, is_needed}
use Rattle.dup_bundle.specs.Targets.{Aim}
use Rattle.dup_bundle.proofs.Ordered.{fewer_left, left_published}
use Rattle.dup_edition.specs.Logged.{Logged}
use Rattle.dup_press.specs.Press.{aim, aim_at, logged}
use Rattle.dup_press.specs.Pressed.{Hands, IsSamePlace, Pressed, Tells, pressed}
use Rattle.dup_press.specs.Turns.{HasExpanded, AllHanded, IsCalm, IsJoined, IsTurn, IsWorking, Repeats, Turns, UntilTold, join_on, publish_on, ticked}
use Rattle.dup_press.proofs.Settling.{content_of, handed_is, join_ends, join_leads, none_leads, none_left, none_waits, to_expand, to_join, turned_less, working_turned}

pub same_twice : (a b c : Pressed) → IsSamePlace a b → IsSamePlace b c → IsSamePlace a c
same_twice a b c one two = record { site = two.site ∙ one.site; limits = two.limits ∙ one.limits; place = two.place ∙ one.place }

pub same_itself : (a : Pressed) → IsSamePlace a a
same_itself a = record { site = refl; limits = refl; place = refl }

-- turns so far, each of which the meter counts
pub record IsExpanding (first : Pressed) (before : ℕ) (now : Pressed) (after : ℕ) : Type 0 where
  pub place : IsSamePlace first now
  pub count : ℕ
  pub turns : Turns first.works.journal.site count (pressed first) (pressed now)
  pub working : IsWorking first.works.journal.site (pressed now)
  pub counted : after ≡ ticked before count

module _ (first : Pressed) (before : ℕ) (now : Pressed) (after : ℕ) (is : IsExpanding first before now after) where
  abbrev site : Parts
  site = first.works.journal.site

  -- one turn more
  module _ (held next : Pressed) (obj : Obj) (content : Content)
      (hands : Hands (hand_step now.works.journal.site now.works.work now.works.target) now (Some obj) held) (same : IsSamePlace now held)
      (over : content ≡ version now.works.journal.site now.works.journal.commits (begun_version now.works.work now.works.target))
      (puts : (put_step held.works.journal.site obj (notes content obj) held.works.work held.works.target (pressed held)).1 ≡ pressed next) (then : IsSamePlace held next) where
    hands_here : hand_step site now.works.work now.works.target (pressed now) ≡ (Some obj, pressed held)
    hands_here = subst (λ (s : Parts). hand_step s now.works.work now.works.target (pressed now) ≡ (Some obj, pressed held)) is.place.site hands

    held_commits : held.works.journal.commits ≡ now.works.journal.commits
    held_commits = ap (λ (p : Press). p.commits) (handed_is site (pressed now) is.working.work is.working.busy obj (pressed held) hands_here).1

    content_is : content ≡ version site held.works.journal.commits is.working.work.version
    content_is = over ∙ (λ i. version (is.place.site i) (sym held_commits i) (begun_version (is.working.busy i) now.works.target))

    turn : IsTurn site (pressed now) (pressed next)
    turn = record {
      obj = obj;
      work = is.working.work;
      held = pressed held;
      busy = is.working.busy;
      handed = hands_here;
      brought = subst (λ (s : Parts). (put_step s obj (notes (version site held.works.journal.commits is.working.work.version) obj) held.works.work held.works.target (pressed held)).1 ≡ pressed next) (same.site ∙ is.place.site)
          (subst (λ (c : Content). (put_step held.works.journal.site obj (notes c obj) held.works.work held.works.target (pressed held)).1 ≡ pressed next) content_is puts);
    }

    pub expanding_more : (last : ℕ) → last ≡ ticked after 1 → IsExpanding first before next last
    expanding_more last once = record {
      place = same_twice first now next is.place (same_twice now held next same then);
      count = suc is.count;
      turns = (pressed now, (is.turns, turn));
      working = working_turned site (pressed now) (pressed next) is.working turn;
      counted = once ∙ ap (λ (n : ℕ). ticked n 1) is.counted;
    }

    pub expanding_less : to_expand (content_of site (pressed next)) next.works.work < to_expand (content_of site (pressed now)) now.works.work
    expanding_less = turned_less site (pressed now) (pressed next) is.working turn

  -- none waits
  module _ (next : Pressed) (hands : Hands (hand_step now.works.journal.site now.works.work now.works.target) now None next) (same : IsSamePlace now next) where
    none_here : hand_step site now.works.work now.works.target (pressed now) ≡ (None, pressed next)
    none_here = subst (λ (s : Parts). hand_step s now.works.work now.works.target (pressed now) ≡ (None, pressed next)) is.place.site hands

    at_rest : pressed next ≡ pressed now
    at_rest = none_leads site (pressed now) is.working.work is.working.busy (pressed next) none_here

    pub expanding_ends : HasExpanded site (pressed first) before (pressed next) after
    expanding_ends = record {
      handed = record {
        count = is.count;
        turns = subst (λ (p : Press). Turns site is.count (pressed first) p) (sym at_rest) is.turns;
        none = ap (λ (p : Press). hand_step site p.work p.target p) at_rest ∙ none_here;
      };
      counted = is.counted;
    }

    pub expanding_calm : IsCalm site (pressed next)
    expanding_calm = subst (IsCalm site) (sym at_rest) (record {
      work = is.working.work;
      busy = is.working.busy;
      earlier = is.working.earlier;
      calm = none_waits site (pressed now) is.working.work is.working.busy (pressed next) none_here;
    })

    pub expanding_place : IsSamePlace first next
    expanding_place = same_twice first now next is.place same

-- levels so far
pub record IsJoining (first now : Pressed) : Type 0 where
  pub place : IsSamePlace first now
  pub count : ℕ
  pub repeats : Repeats (join_on first.works.journal.site) (Joins Done) count (pressed first) (pressed now)
  pub calm : IsCalm first.works.journal.site (pressed now)

module _ (first now next : Pressed) (is : IsJoining first now) (same : IsSamePlace now next) where
  abbrev place_site : Parts
  place_site = first.works.journal.site

  module _ (n : ℕ) (joins : Tells (join_step now.works.journal.site now.works.work now.works.target) now (Joins (Level n)) next) where
    joins_here : join_on place_site (pressed now) ≡ (Joins (Level n), pressed next)
    joins_here = subst (λ (s : Parts). join_on s (pressed now) ≡ (Joins (Level n), pressed next)) is.place.site joins

    abbrev joined_work : Work
    joined_work = with_joined (level (version place_site now.works.journal.commits is.calm.work.version) is.calm.work) is.calm.work

    led : (pressed next ≡ record (pressed now) { work = Some joined_work }) ×
        (to_join (version place_site now.works.journal.commits is.calm.work.version) (Some joined_work) < to_join (version place_site now.works.journal.commits is.calm.work.version) (Some is.calm.work))
    led = join_leads place_site (pressed now) is.calm.work is.calm.busy is.calm.calm n (pressed next) joins_here is.calm.earlier

    pub joining_more : IsJoining first next
    joining_more = record {
      place = same_twice first now next is.place same;
      count = suc is.count;
      repeats = (pressed now, (Joins (Level n), (is.repeats, joins_here, λ e. cc)));
      calm = subst (IsCalm place_site) (sym led.0) (record { work = joined_work; busy = refl; earlier = is.calm.earlier; calm = is.calm.calm });
    }

    pub joining_less : to_join (content_of place_site (pressed next)) next.works.work < to_join (content_of place_site (pressed now)) now.works.work
    joining_less =
        subst (λ (p : Press). to_join (content_of place_site p) p.work < to_join (content_of place_site (pressed now)) now.works.work) (sym led.0)
        (subst (λ (o : Option Work). to_join (version place_site now.works.journal.commits is.calm.work.version) (Some joined_work) < to_join (version place_site now.works.journal.commits (begun_version o now.works.target)) o) (sym is.calm.busy) led.1)

  module _ (j : Joined) (joins : Tells (join_step now.works.journal.site now.works.work now.works.target) now (Joins j) next) (other : (n : ℕ) → j ≡ Level n → ⊥) where
    last_here : join_on place_site (pressed now) ≡ (Joins j, pressed next)
    last_here = subst (λ (s : Parts). join_on s (pressed now) ≡ (Joins j, pressed next)) is.place.site joins

    ended : (join_on place_site (pressed now) ≡ (Joins Done, pressed now)) × (pressed next ≡ pressed now)
    ended = join_ends place_site (pressed now) is.calm.work is.calm.busy is.calm.calm (pressed next) j last_here other

    pub joining_ends : UntilTold (join_on place_site) (Joins Done) (pressed first) (pressed next)
    joining_ends = subst (UntilTold (join_on place_site) (Joins Done) (pressed first)) (sym ended.1) (record { count = is.count; repeats = is.repeats; ends = ended.0 })

    pub joining_done : IsJoined place_site (pressed next)
    joining_done = subst (IsJoined place_site) (sym ended.1) (record {
      work = is.calm.work;
      busy = is.calm.busy;
      calm = is.calm.calm;
      joined = none_left place_site (pressed now) is.calm.work is.calm.busy is.calm.calm (pressed now) ended.0;
    })

    pub joining_place : IsSamePlace first next
    joining_place = same_twice first now next is.place same

-- bundles so far
pub record IsPublishing (first now : Pressed) : Type 0 where
  pub place : IsSamePlace first now
  pub count : ℕ
  pub repeats : Repeats (publish_on first.works.journal.site) NothingChanged count (pressed first) (pressed now)

module _ (first now next : Pressed) (is : IsPublishing first now) (same : IsSamePlace now next) where
  abbrev out_site : Parts
  out_site = first.works.journal.site

  abbrev old_edition : Logged
  old_edition = logged now.works now.log

  abbrev old_aim : Aim
  old_aim = aim now.works

  abbrev at_site : Parts → Option (List Path) → Told × Press
  at_site s o = publish_by (target_by s now.works.journal.commits now.works.target) (version_of now.works.target) o (pressed now)

  step_by : (o : Option (List Path)) → bundle old_edition old_aim ≡ o → publish_step now.works.journal.site now.works.target (pressed now) ≡ at_site now.works.journal.site o
  step_by o chosen = ap (at_site now.works.journal.site) chosen

  module _ (number v puts drops : ℕ) (sends : Tells (publish_step now.works.journal.site now.works.target) now (Published number v puts drops) next) where
    pub publishing_more : IsPublishing first next
    publishing_more = record {
      place = same_twice first now next is.place same;
      count = suc is.count;
      repeats = (
        pressed now,
        (
          Published number v puts drops,
          (
            is.repeats,
            subst (λ (s : Parts). publish_on s (pressed now) ≡ (Published number v puts drops, pressed next)) is.place.site sends,
            λ e. cc,
          ),
        ),
      );
    }

    left_next : List Path
    left_next = changed_paths (logged next.works next.log) (aim next.works)

    pub publishing_less : length (changed_paths (logged next.works next.log) (aim next.works)) < length (changed_paths (logged now.works now.log) (aim now.works))
    publishing_less = by_bundle (bundle old_edition old_aim) refl
      where
        by_bundle : (o : Option (List Path)) → bundle old_edition old_aim ≡ o → length (changed_paths (logged next.works next.log) (aim next.works)) < length (changed_paths old_edition old_aim)
        by_bundle None none =
            let e : NothingChanged ≡ Published number v puts drops = ap (λ (r : Told × Press). r.0) (sym (step_by None none) ∙ sends) in
            absurd (cc)
        by_bundle (Some paths) some =
            let commits : List Commit = drop (length (history now.log)) (take (version_of now.works.target) now.works.journal.commits) in
            let leads : pressed next ≡ record (pressed now) { log = now.log ++ bundle_of old_aim.pages old_aim.version commits paths ∷ [] } = ap (λ (r : Told × Press). r.1) (sym sends ∙ step_by (Some paths) some) in
            let aim_is : aim next.works ≡ old_aim = λ i. aim_at (same.site i) (leads i).commits (leads i).target in
            let log_is : next.log ≡ now.log ++ bundle_of old_aim.pages old_aim.version commits paths ∷ [] = ap (λ (p : Press). p.log) leads in
            subst (λ (l : List Path). length l < length (changed_paths old_edition old_aim))
            (left_published old_edition old_aim commits paths ∙ (λ i. definition.changed_paths (edition (sym log_is i)) (sym aim_is i).pages))
            (fewer_left (is_needed old_edition old_aim) (changed_paths old_edition old_aim) paths some)

  module _ (nothing : Tells (publish_step now.works.journal.site now.works.target) now NothingChanged next) where
    at_end : pressed next ≡ pressed now
    at_end = by_bundle (bundle old_edition old_aim) refl
      where
        by_bundle : (o : Option (List Path)) → bundle old_edition old_aim ≡ o → pressed next ≡ pressed now
        by_bundle None none = ap (λ (r : Told × Press). r.1) (sym nothing ∙ step_by None none)
        by_bundle (Some paths) some =
            let commits : List Commit = drop (length (history now.log)) (take (version_of now.works.target) now.works.journal.commits) in
            let b : Bundle = bundle_of old_aim.pages old_aim.version commits paths in
            let e : Published (length now.log + 1) old_aim.version (length b.puts) (length b.drops) ≡ NothingChanged = ap (λ (r : Told × Press). r.0) (sym (step_by (Some paths) some) ∙ nothing) in
            absurd (cc)

    pub publishing_ends : UntilTold (publish_on out_site) NothingChanged (pressed first) (pressed next)
    publishing_ends = subst (UntilTold (publish_on out_site) NothingChanged (pressed first)) (sym at_end) (record {
      count = is.count;
      repeats = is.repeats;
      ends = subst (λ (s : Parts). publish_on s (pressed now) ≡ (NothingChanged, pressed now)) is.place.site (nothing ∙ ap (λ (p : Press). (NothingChanged, p)) at_end);
    })

    pub publishing_place : IsSamePlace first next
    publishing_place = same_twice first now next is.place same

-- a content of the site has its frame
pub over_frame : (site other : Parts) (commits : List Commit) (v : ℕ) (c : Content) → c ≡ version site commits v → other ≡ site → c.frame ≡ frame_of other
over_frame site other commits v c is same = ap (λ (d : Content). d.frame) is ∙ content_frame site (take v commits) ∙ ap frame_of (sym same)

pub no_some : {X : Type 0} (o : Option X) → ((x : X) → o ≡ Some x → ⊥) → o ≡ None
no_some None none = refl
no_some (Some x) none = absurd (none x refl)

pub not_level : (j : Answer) → ((n : ℕ) → j ≡ answer.Level n → ⊥) → (n : ℕ) → joined_told j ≡ Level n → ⊥
not_level answer.Idle other n is = cc
not_level (answer.Waiting m) other n is = cc
not_level answer.Done other n is = cc
not_level (answer.Level m) other n is = other m refl

pub told_report : (f : Finish) (counts : Counts) → finish_told f ≡ Report counts → ((v e j k : ℕ) (touched : List Path) → f ≡ finish.Report v e j k touched → ⊥) → ⊥
told_report finish.Idle counts is other = cc
told_report (finish.Waiting n) counts is other = cc
told_report (finish.Unjoined n) counts is other = cc
told_report (finish.Report v e j k touched) counts is other = other v e j k touched refl

pub not_nothing_begun : (b : Begun) → ((v : ℕ) → b ≡ begun.Nothing v → ⊥) → (v : ℕ) → begun_told b ≡ machine.Begun.Nothing v → ⊥
not_nothing_begun (begun.Same v) other n is = cc
not_nothing_begun (begun.Nothing v) other n is = other v refl
not_nothing_begun (begun.Work v m) other n is = cc

-- nothing is published before a work is closed
turns_log : (site : Parts) (k : ℕ) (p q : Press) → Turns site k p q → q.log ≡ p.log
turns_log site zero p q is = ap (λ (x : Press). x.log) (sym is)
turns_log site (suc k) p q (mid, (turns, turn)) =
    ap (λ (x : Press). x.log) (sym turn.brought) ∙ ap (λ (r : Option Obj × Press). r.1.log) (sym turn.handed) ∙ turns_log site k p mid turns

joins_log : (site : Parts) (n : ℕ) (p q : Press) → Repeats (join_on site) (Joins Done) n p q → q.log ≡ p.log
joins_log site zero p q is = ap (λ (x : Press). x.log) (sym is)
joins_log site (suc n) p q (mid, (t, (before, is, other))) = ap (λ (r : Told × Press). r.1.log) (sym is) ∙ joins_log site n p mid before

pub worked_log : (site : Parts) (p handed joined finished : Press) (t : Told) → AllHanded site p handed → UntilTold (join_on site) (Joins Done) handed joined →
    finish_step site joined.work joined.target joined ≡ (t, finished) → finished.log ≡ p.log
worked_log site p handed joined finished t hands joins finishes =
    ap (λ (r : Told × Press). r.1.log) (sym finishes) ∙ joins_log site joins.count handed joined joins.repeats ∙ turns_log site hands.count p handed hands.turns
