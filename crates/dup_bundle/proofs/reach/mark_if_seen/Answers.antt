use Rattle.std.proofs.Common.{◌≡◌, Bool, true, false, ◌&&◌, ◌||◌, refl, sym, ap, ◌∙◌}
use Rattle.std.specs.Ordering.{is_eq}
use Rattle.dup_names.specs.contracts.object.ObjOrd.TheImpl.{ghosts as order}
use Rattle.dup_bundle.specs.Hinted.{is_done}
use Rattle.dup_bundle.proofs.reach.mark_if_seen.Goals as goal

with_true : (b : Bool) → b ≡ (b && true)
with_true true = refl
with_true false = refl

with_false : (b d : Bool) → d ≡ (b && false || d)
with_false true d = refl
with_false false d = refl

pub returns-then-are_seen : goal.returns-then-are_seen
returns-then-are_seen c = λ o.
    c.in_ok-mark.ensures o
    ∙ ap (λ b. b || is_done c.args.done.now o) (with_true (is_eq (order.cmp c.args.obj.now o)) ∙ ap (λ b. is_eq (order.cmp c.args.obj.now o) && b) (sym c.if-are_seen.true ∙ c.are_seen.ensures))

pub returns : goal.returns
returns c = λ o.
    with_false (is_eq (order.cmp c.args.obj.now o)) (is_done c.args.done.now o)
    ∙ ap (λ b. is_eq (order.cmp c.args.obj.now o) && b || is_done c.args.done.now o) (sym c.if-are_seen.false ∙ c.are_seen.ensures)
