use Rattle.std.proofs.Common.{◌≡◌, ◌+◌, true, false, cond, length, ap, ◌∙◌}
use Rattle.dup_model.specs.Editions.{has}
use Rattle.dup_bundle.proofs.Waiting.{added_within, one_more, some_fewer, some_is}
use Rattle.dup_bundle.proofs.order.leaving_order.Goals as goal

pub loop-done-preserved : goal.loop-done-preserved
loop-done-preserved c = (
  c.in_ok-add_path.ensures.order,
  added_within c.args.changed.now c.loop-done.seen.keys c.add_path.new.paths.keys c.in-Some.path (some_is (λ p. (has c.args.changed.now p ≡ true) × (has c.loop-done.seen.keys p ≡ false)) c.in_ok-path.field-0 c.in-Some.path c.in-Some.is c.in_ok-path.ensures).0 c.in_ok-add_path.ensures.has c.loop-done.invariant.1,
)

pub loop-done-smaller : goal.loop-done-smaller
loop-done-smaller c =
    one_more (length c.args.changed.now) (length c.loop-done.seen.keys) (length c.add_path.new.paths.keys)
    (some_fewer c.add_path.new.paths.keys c.args.changed.now (loop-done-preserved c).0 (loop-done-preserved c).1)
    (c.in_ok-add_path.ensures.count ∙ ap (λ b. length c.loop-done.seen.keys + cond b 0 1) (some_is (λ p. (has c.args.changed.now p ≡ true) × (has c.loop-done.seen.keys p ≡ false)) c.in_ok-path.field-0 c.in-Some.path c.in-Some.is c.in_ok-path.ensures).1)
