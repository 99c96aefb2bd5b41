-- What a settle has done, as events of the machine.
use Rattle.std.proofs.Common.{◌≡◌, ℕ, List, Some, None, length, sym, ap, subst, ◌∙◌}
use Rattle.std.specs.FinMap as fin
use Rattle.dup_template.specs.declared.site.Parts.{Parts}
use Rattle.dup_model.specs.Editions.{Bundle}
use Rattle.dup_model.specs.Journal.{Limits}
use Rattle.dup_model.specs.Pages.{live}
use Rattle.dup_model.specs.Versions.{content}
use Rattle.dup_machine.specs.Press.{press_of}
use Rattle.dup_machine.specs.Presses.{Press, begin_step, finish_step}
use Rattle.dup_machine.specs.Settle.{Settles}
use Rattle.dup_machine.specs.World.{Counts, Event, Told, World}
use Rattle.dup_machine.specs.World as machine
use Rattle.dup_machine.specs.World.Begun.{Nothing}
use Rattle.dup_machine.specs.World.Ended.{Report}
use Rattle.dup_machine.specs.World.Joined.{Done}
use Rattle.dup_machine.specs.World.Told.{Begins, Finished, Joins, NothingChanged}
use Rattle.dup_press.specs.Pressed.{IsSamePlace, Pressed, Tells, pressed}
use Rattle.dup_press.specs.Told.{IsSettled, summary_of}
use Rattle.dup_press.specs.Turns.{AllHanded, HasPublished, HasWorked, UntilTold, counts_left, join_on, publish_on}
use Rattle.dup_press.specs.declared.answers.Summary.{Summary}
use Rattle.dup_press.proofs.Chains.{HasWorkedOff, Led, led_at_once, led_by_work, worked_off}
use Rattle.dup_press.proofs.Settling.{nothing_begun}

module _ (old mid new : Pressed) (summary : Summary) (same : IsSamePlace old mid) where
  abbrev site : Parts
  site = old.works.journal.site

  module _ (t : machine.Begun) (begins : Tells (begin_step site old.works.work old.works.target) old (Begins t) mid) (before after : ℕ) (h : HasWorked mid before summary new after) where
    log_is : mid.log ≡ old.log
    log_is = ap (λ (r : Told × Press). r.1.log) (sym begins)

    pub worked : (limits : Limits) (w : World) → press_of w ≡ pressed old → fin.get w.slots 0 ≡ None → HasWorkedOff site limits w h.hands.count h.counts (pressed new)
    worked limits w press slot =
        worked_off site limits (pressed old) (pressed mid) h.handed h.joined h.finished (pressed new) t h.counts begins
        (subst (λ (s : Parts). AllHanded s (pressed mid) h.handed) same.site h.hands)
        (subst (λ (s : Parts). UntilTold (join_on s) (Joins Done) h.handed h.joined) same.site h.joins)
        (subst (λ (s : Parts). finish_step s h.joined.work h.joined.target h.joined ≡ (Finished (Report h.counts), h.finished)) same.site h.finishes)
        (subst (λ (s : Parts). UntilTold (publish_on s) NothingChanged h.finished (pressed new)) same.site h.publishes)
        w (record { press = press; slot = slot })

    pub settled_by_work : IsSettled old summary new
    settled_by_work limits w press slot =
        let l : Led site limits w h.counts (pressed new) = led_by_work site limits h.hands.count w h.counts (pressed new) (worked limits w press slot) in
        record {
          events = l.events;
          counts = h.counts;
          settles = l.settles;
          says = h.says ∙ ap (λ (log : List Bundle). summary_of (record mid { log = log }) h.counts new) log_is;
          press = l.press;
        }

  module _ (v : ℕ) (begins : Tells (begin_step site old.works.work old.works.target) old (Begins (Nothing v)) mid) where
    none : ((pressed old).work ≡ None) × (((pressed old).target ≡ Some (length old.works.journal.commits)) × ((v ≡ length old.works.journal.commits) × (pressed mid ≡ pressed old)))
    none = nothing_begun site (pressed old) v (pressed mid) begins

    pub settled_at_once : HasPublished mid summary new → IsSettled old summary new
    settled_at_once h limits w press slot =
        let l : Led site limits w (record { version = v; expanded = 0; joined = 0; kept = length (live (content site w.commits)) }) (pressed new) =
        led_at_once site limits (pressed old) (pressed mid) (pressed new) v begins
        (subst (λ (s : Parts). UntilTold (publish_on s) NothingChanged (pressed mid) (pressed new)) same.site h.publishes)
        w (record { press = press; slot = slot }) in
        let commits_are : w.commits ≡ mid.works.journal.commits = ap (λ (p : Press). p.commits) press ∙ ap (λ (p : Press). p.commits) (sym none.1.1.1) in
        let version_is : v ≡ length mid.works.journal.commits = none.1.1.0 ∙ ap (λ (p : Press). length p.commits) (sym none.1.1.1) in
        let counts_are : ◌≡◌ {A = Counts} (record { version = v; expanded = 0; joined = 0; kept = length (live (content site w.commits)) }) (counts_left mid) =
        λ i. record { version = version_is i; expanded = 0; joined = 0; kept = length (live (content (sym same.site i) (commits_are i))) } in
        record {
          events = l.events;
          counts = counts_left mid;
          settles = subst (λ (c : Counts). Settles site limits w l.events c) counts_are l.settles;
          says = h.says ∙ ap (λ (p : Press). summary_of (record mid { log = p.log }) (counts_left mid) new) none.1.1.1;
          press = l.press;
        }

    pub left_idle : mid.works.work ≡ None
    left_idle = ap (λ (p : Press). p.work) none.1.1.1 ∙ none.0

    pub left_made : mid.works.target ≡ Some (length mid.works.journal.commits)
    left_made = ap (λ (p : Press). p.target) none.1.1.1 ∙ none.1.0 ∙ ap (λ (p : Press). Some (length p.commits)) (sym none.1.1.1)
