use Rattle.std.proofs.Common.{◌≡◌, Bool, not, List, Some, None, sym, ap, subst, ◌∙◌}
use Rattle.std.proofs.lemmas.Bool.{true≢false}
use Rattle.std.proofs.lemmas.Map.Keys.{sorted_tail}
use Rattle.std.specs.List.{filter}
use Rattle.dup_names.specs.Order.{text_cmp}
use Rattle.dup_names.specs.Words.{Path}
use Rattle.dup_model.specs.Bundles.{bundle_from}
use Rattle.dup_model.specs.Editions.{has}
use Rattle.dup_bundle.specs.Between.{is_needed, AreChanged}
use Rattle.dup_bundle.specs.Schedule.{left_without}
use Rattle.dup_bundle.specs.Waiting.{AreWaiting, IsHeldBy}
use Rattle.dup_bundle.proofs.Paths.{IsInOrder}
use Rattle.dup_bundle.proofs.Waiting.{first_knot, no_bundle, none_is, none_popped, some_is, stays_waiting, woken}
use Rattle.dup_bundle.proofs.schedule.take_bundle.Goals as goal

pub look-requires-clause-changed : goal.look-requires-clause-changed
look-requires-clause-changed c = subst (AreChanged c.args.edition.now c.args.target.now) (sym c.loop-path.invariant.2) c.requires.left

pub look-requires-clause-levels : goal.look-requires-clause-levels
look-requires-clause-levels c = λ n p q under inside needed. c.requires.levels n p q under (ap (λ l. has l q) (sym c.loop-path.invariant.2) ∙ inside) needed

pub leave-requires : goal.leave-requires
leave-requires c = subst IsInOrder (sym c.loop-path.invariant.2) c.requires.left.order

pub returns-in_default-None-clause-bundle : goal.returns-in_default-None-clause-bundle
returns-in_default-None-clause-bundle c =
    let need : Path → Path → Bool = is_needed c.args.edition.now c.args.target.now in
    let paths : List Path = c.in_ok-other.field-0.0.keys in
    subst (λ l. Some paths ≡ bundle_from need l) c.loop-path.invariant.2
    (first_knot need c.loop-path.left c.loop-path.queue.ready.keys c.loop-path.queue.waiting c.loop-path.invariant.1
    (subst IsInOrder (sym c.loop-path.invariant.2) c.requires.left.order) c.in-Some.path c.pop_first.new.self.keys c.in-Some.ensures.removal c.loop-path.invariant.0
    (sym c.has.ensures ∙ c.if-has.true)
    (none_is c.in_ok-other.field-0.1 c.in_default-None.is-1 c.in_ok-other.ensures.knot)
    paths (none_is c.in_ok-other.field-0.1 c.in_default-None.is-1 c.in_ok-other.ensures.all))

pub returns-in_default-None-clause-left : goal.returns-in_default-None-clause-left
returns-in_default-None-clause-left c =
    let paths : List Path = c.in_ok-other.field-0.0.keys in
    c.leave.ensures
    ∙ ap (filter (λ q. not (has paths q))) c.loop-path.invariant.2
    ∙ ap (left_without c.args.left.now) (returns-in_default-None-clause-bundle c)

pub returns-in_default-None-clause-waiting : goal.returns-in_default-None-clause-waiting
returns-in_default-None-clause-waiting c =
    let need : Path → Path → Bool = is_needed c.args.edition.now c.args.target.now in
    let paths : List Path = c.in_ok-other.field-0.0.keys in
    subst (λ l. AreWaiting need l c.wake.new.ready.keys c.loop-path.queue.waiting) (sym c.leave.ensures)
    (woken need c.loop-path.left c.in-Some.path (sym c.has.ensures ∙ c.if-has.true) paths (none_is c.in_ok-other.field-0.1 c.in_default-None.is-1 c.in_ok-other.ensures.all)
    c.pop_first.new.self.keys c.loop-path.queue.ready.keys c.wake.new.ready.keys c.loop-path.queue.waiting c.in-Some.ensures.removal c.loop-path.invariant.1
    c.in_ok-wake-in_default-None.ensures.keeps c.in_ok-wake-in_default-None.ensures.wakes)

pub loop-path-preserved-then-has : goal.loop-path-preserved-then-has
loop-path-preserved-then-has c =
    let need : Path → Path → Bool = is_needed c.args.edition.now c.args.target.now in (
      sorted_tail text_cmp c.in-Some.path c.pop_first.new.self.keys (subst IsInOrder c.in-Some.ensures.removal c.loop-path.invariant.0),
      stays_waiting need c.loop-path.left c.in-Some.path c.pop_first.new.self.keys c.loop-path.queue.ready.keys c.loop-path.queue.waiting c.note_linker.new.linkers
          c.in-Some.ensures.removal c.loop-path.invariant.1 c.in_ok-note_linker-in_default-Some.ensures.keeps
          (λ inside. (
            c.in_default-Some.other,
            some_is (IsHeldBy need c.loop-path.left c.in-Some.path) c.in_ok-other.field-0.1 c.in_default-Some.other c.in_default-Some.is-1 c.in_ok-other.ensures.held,
            c.in_ok-note_linker-in_default-Some.ensures.notes,
          )),
      c.loop-path.invariant.2,
    )

pub loop-path-preserved : goal.loop-path-preserved
loop-path-preserved c =
    let need : Path → Path → Bool = is_needed c.args.edition.now c.args.target.now in (
      sorted_tail text_cmp c.in-Some.path c.pop_first.new.self.keys (subst IsInOrder c.in-Some.ensures.removal c.loop-path.invariant.0),
      stays_waiting need c.loop-path.left c.in-Some.path c.pop_first.new.self.keys c.loop-path.queue.ready.keys c.loop-path.queue.waiting c.loop-path.queue.waiting
          c.in-Some.ensures.removal c.loop-path.invariant.1 (λ p q h. h)
          (λ inside. absurd (true≢false (sym inside ∙ sym c.has.ensures ∙ c.if-has.false))),
      c.loop-path.invariant.2,
    )

pub returns-clause-bundle : goal.returns-clause-bundle
returns-clause-bundle c =
    let need : Path → Path → Bool = is_needed c.args.edition.now c.args.target.now in
    subst (λ l. None ≡ bundle_from need l) c.loop-path.invariant.2
    (no_bundle need c.loop-path.left c.loop-path.queue.ready.keys c.loop-path.queue.waiting c.loop-path.invariant.1
    (none_popped c.loop-path.queue.ready.keys (λ some. true≢false (sym (c.in_default.ensures.variant.1 some)))))

pub returns-clause-left : goal.returns-clause-left
returns-clause-left c = c.loop-path.invariant.2 ∙ ap (left_without c.args.left.now) (returns-clause-bundle c)
