use Rattle.std.proofs.Common.{◌≡◌, Some, None, sym, ap, subst, ◌∙◌}
use Rattle.std.specs.Option.{option_map}
use Rattle.dup_model.specs.Bundles.{bundle_from}
use Rattle.dup_bundle.specs.Between.{bundle, is_needed}
use Rattle.dup_bundle.specs.Plans.{plan_of}
use Rattle.dup_bundle.proofs.Paths.{IsInOrder}
use Rattle.dup_bundle.proofs.Waiting.{all_ready, levels_none}
use Rattle.dup_bundle.proofs.Exact.{are_changed}
use Rattle.dup_bundle.proofs.bundling.bundle.Goals as goal

pub take_bundle-requires-clause-left : goal.take_bundle-requires-clause-left
take_bundle-requires-clause-left c = are_changed c.args.edition.now c.of.result c.in_ok-left.left c.in_ok-left.ensures

pub take_bundle-requires-clause-levels : goal.take_bundle-requires-clause-levels
take_bundle-requires-clause-levels c = levels_none (is_needed c.args.edition.now c.of.result) c.in_ok-left.left c.with_hints-ways.result.levels c.with_hints-ways.ensures.levels

pub take_bundle-requires-clause-order : goal.take_bundle-requires-clause-order
take_bundle-requires-clause-order c = subst IsInOrder (sym c.in_ok-queue.ensures) (are_changed c.args.edition.now c.of.result c.in_ok-left.left c.in_ok-left.ensures).order

pub take_bundle-requires-clause-waiting : goal.take_bundle-requires-clause-waiting
take_bundle-requires-clause-waiting c = all_ready (is_needed c.args.edition.now c.of.result) c.in_ok-left.left c.in_ok-queue.queue.ready.keys c.in_ok-queue.queue.waiting c.in_ok-queue.ensures

pub returns-in-None : goal.returns-in-None
returns-in-None c =
    let is : bundle c.args.edition.now c.of.result ≡ None =
    ap (bundle_from (is_needed c.args.edition.now c.of.result)) (sym c.in_ok-left.ensures) ∙ sym c.in_ok-take_bundle.ensures.bundle ∙ ap (option_map (λ b. b.keys)) c.in-None.is in
    subst (λ t. None ≡ option_map (plan_of t) (bundle c.args.edition.now t)) c.of.ensures (ap (option_map (plan_of c.of.result)) (sym is))

pub returns : goal.returns
returns c =
    let is : bundle c.args.edition.now c.of.result ≡ Some c.in-Some.paths.keys =
    ap (bundle_from (is_needed c.args.edition.now c.of.result)) (sym c.in_ok-left.ensures) ∙ sym c.in_ok-take_bundle.ensures.bundle ∙ ap (option_map (λ b. b.keys)) c.in-Some.is in
    subst (λ t. Some c.in_ok-plan-in-Some.plan ≡ option_map (plan_of t) (bundle c.args.edition.now t)) c.of.ensures
    (ap Some c.in_ok-plan-in-Some.ensures ∙ ap (option_map (plan_of c.of.result)) (sym is))
