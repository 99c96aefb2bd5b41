use Rattle.std.proofs.Common.{◌≡◌, ◌++◌, ◌∷◌, [], List, Option, Some, None, map, not, refl, sym, ap, subst, ◌∙◌, ◌<◌, length}
use Rattle.std.specs.List.{filter}
use Rattle.std.specs.Option.{option_map}
use Rattle.std.proofs.lemmas.List.{append-nil, map-append}
use Rattle.dup_names.specs.Words.{Path}
use Rattle.dup_model.specs.Bundles.{bundle_from}
use Rattle.dup_model.specs.Editions.{has}
use Rattle.dup_bundle.specs.Between.{is_needed, AreChanged}
use Rattle.dup_bundle.specs.Schedule.{left_without, IsOrder}
use Rattle.dup_bundle.specs.Waiting.{AreLevels}
use Rattle.dup_bundle.proofs.Paths.{IsInOrder}
use Rattle.dup_bundle.proofs.Waiting.{all_ready, levels_within}
use Rattle.dup_bundle.proofs.Exact.{are_changed}
use Rattle.dup_bundle.proofs.Ordered.{fewer_left, left_changed, ordered, taken}
use Rattle.dup_bundle.proofs.schedule.Schedule.between.Goals as goal

pub loop-bundles-init : goal.loop-bundles-init
loop-bundles-init c = (
  are_changed c.args.edition.now c.args.target.now c.in_ok-left.left (c.in_ok-left.ensures ∙ c.requires.changed),
  subst (λ l. AreLevels (is_needed c.args.edition.now c.args.target.now) l c.in_ok-ways.ways.levels) (sym c.in_ok-left.ensures) c.in_ok-ways.ensures.levels,
  subst IsInOrder (sym c.in_ok-queue.ensures) (are_changed c.args.edition.now c.args.target.now c.args.changed.now c.requires.changed).order,
  all_ready (is_needed c.args.edition.now c.args.target.now) c.in_ok-left.left c.in_ok-queue.queue.ready.keys c.in_ok-queue.queue.waiting (c.in_ok-queue.ensures ∙ sym c.in_ok-left.ensures),
  λ later order. subst (λ l. IsOrder (is_needed c.args.edition.now c.args.target.now) c.args.changed.now (map (λ b. b.keys) l ++ later)) (sym c.new-bundles.ensures.items)
      (subst (λ l. IsOrder (is_needed c.args.edition.now c.args.target.now) l later) c.in_ok-left.ensures order),
)

pub loop-bundles-smaller : goal.loop-bundles-smaller
loop-bundles-smaller c =
    let need = is_needed c.args.edition.now c.args.target.now in
    let left : List Path = c.loop-bundles.left in
    let first : bundle_from need left ≡ Some c.in-Some.paths.keys = sym c.in_ok-paths.ensures.bundle ∙ ap (option_map (λ b. b.keys)) c.in-Some.is in
    subst (λ l. length l < length left) (sym (c.in_ok-paths.ensures.left ∙ ap (left_without left) first)) (fewer_left need left c.in-Some.paths.keys first)

pub loop-bundles-preserved : goal.loop-bundles-preserved
loop-bundles-preserved c =
    let need = is_needed c.args.edition.now c.args.target.now in
    let left : List Path = c.loop-bundles.left in
    let paths : List Path = c.in-Some.paths.keys in
    let first : bundle_from need left ≡ Some paths = sym c.in_ok-paths.ensures.bundle ∙ ap (option_map (λ b. b.keys)) c.in-Some.is in
    let now : c.take_bundle.new.left ≡ filter (λ q. not (has paths q)) left = c.in_ok-paths.ensures.left ∙ ap (left_without left) first in (
      subst (AreChanged c.args.edition.now c.args.target.now) (sym now) (left_changed c.args.edition.now c.args.target.now (λ q. not (has paths q)) left c.loop-bundles.invariant.0),
      subst (λ l. AreLevels need l c.in_ok-ways.ways.levels) (sym now) (levels_within need (λ q. not (has paths q)) left c.in_ok-ways.ways.levels c.loop-bundles.invariant.1),
      c.in_ok-paths.ensures.order,
      c.in_ok-paths.ensures.waiting,
      λ later order. subst (λ l. IsOrder need c.args.changed.now (l ++ later)) (sym (ap (map (λ b. b.keys)) c.in_ok-push_back.ensures.items ∙ map-append (λ b. b.keys) c.loop-bundles.bundles.items (c.in-Some.paths ∷ [])))
          (taken need left paths first c.args.changed.now (map (λ b. b.keys) c.loop-bundles.bundles.items) c.loop-bundles.invariant.4 later (subst (λ l. IsOrder need l later) now order)),
    )

no_some : {X : Type 0} (o : Option X) → ((x : X) → o ≡ Some x → ⊥) → o ≡ None
no_some None none = refl
no_some (Some x) none = absurd (none x refl)

pub returns : goal.returns
returns c =
    let need = is_needed c.args.edition.now c.args.target.now in
    let none : bundle_from need c.loop-bundles.left ≡ None = sym c.in_ok-paths.ensures.bundle ∙ ap (option_map (λ b. b.keys)) (no_some c.in_ok-paths.field-0 c.in_default.not-Some) in
    ordered c.args.edition.now c.args.target.now (map (λ b. b.keys) c.loop-bundles.bundles.items) c.args.changed.now c.requires.changed
    (subst (IsOrder need c.args.changed.now) (append-nil (map (λ b. b.keys) c.loop-bundles.bundles.items)) (c.loop-bundles.invariant.4 [] none))
