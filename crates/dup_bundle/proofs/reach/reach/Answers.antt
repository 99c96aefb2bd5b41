use Rattle.std.proofs.Common.{[], ◌∷◌, ◌++◌, ◌||◌, sym, ap, subst, ◌∙◌, arith}
use Rattle.std.proofs.lemmas.List.{nil_from_length}
use Rattle.std.specs.Ordering.{eq_by_cmp, is_eq}
use Rattle.std.specs.List.{list_any}
use Rattle.std.proofs.lemmas.Bool.{true≢false}
use Rattle.dup_names.specs.contracts.object.ObjOrd.TheImpl.{ghosts as order}
use Rattle.dup_names.specs.Order.{text_cmp}
use Rattle.dup_model.specs.Editions.{has}
use Rattle.dup_bundle.specs.Between.{is_needed}
use Rattle.dup_bundle.proofs.Walk.{IsWalk, all_seen, begun, smaller, stepped, walked}
use Rattle.dup_bundle.proofs.reach.reach.Goals as goal

pub loop-path-init : goal.loop-path-init
loop-path-init c = (
  begun (is_needed c.args.edition.now c.args.target.now) c.args.changed.now c.args.start.now c.requires.start _ _
      (λ q. c.in_ok-add_path.ensures.has q ∙ ap (λ l. eq_by_cmp text_cmp q c.args.start.now || has l q) c.new-seen.ensures.empty)
      (c.in_ok-push.ensures.items ∙ ap (λ l. l ++ c.args.start.now ∷ []) c.new-due.ensures.items)
      c.add_path.ensures.order,
  λ o none. absurd (true≢false (sym none ∙ ap (λ l. list_any (λ x. is_eq (order.cmp o x)) l) c.new-done.ensures.empty)),
)

pub loop-path-preserved : goal.loop-path-preserved
loop-path-preserved c = (
  stepped (is_needed c.args.edition.now c.args.target.now) c.args.changed.now c.args.start.now c.in-Some.path c.loop-path.seen.keys c.pop.new.self.items _ _
      c.in_ok-add_needed.ensures.seen c.in_ok-add_needed.ensures.due c.loop-path.due.items c.in-Some.ensures.items c.add_needed.ensures.order c.loop-path.invariant.0,
  c.in_ok-add_needed.ensures.done,
)

pub loop-path-smaller : goal.loop-path-smaller
loop-path-smaller c =
    smaller (is_needed c.args.edition.now c.args.target.now) c.args.changed.now c.args.start.now c.in-Some.path c.loop-path.seen.keys c.pop.new.self.items _ _
    c.in_ok-add_needed.ensures.seen c.in_ok-add_needed.ensures.due c.loop-path.due.items c.in-Some.ensures.items c.loop-path.invariant.0 (loop-path-preserved c).0 c.in_ok-add_needed.ensures.count

pub returns : goal.returns
returns c = walked (is_needed c.args.edition.now c.args.target.now) c.args.changed.now c.args.start.now _
    c.requires.changed.order
    (subst (IsWalk (is_needed c.args.edition.now c.args.target.now) c.args.changed.now c.args.start.now c.loop-path.seen.keys) (nil_from_length c.loop-path.due.items (omega (arith, c.in_default.ensures.cases.0))) c.loop-path.invariant.0)

pub returns-then-len : goal.returns-then-len
returns-then-len c = all_seen (is_needed c.args.edition.now c.args.target.now) c.args.changed.now c.args.start.now c.loop-path.seen.keys c.loop-path.due.items
    c.requires.changed.order c.loop-path.invariant.0 (sym c.len.ensures.len ∙ c.if-len.true ∙ c.len-in-Some.ensures)
