use Rattle.std.proofs.Common.{◌≡◌, Bool, true, ◌&&◌, [], ◌∷◌, ◌++◌, ◌||◌, sym, ap, subst, ◌∙◌, arith}
use Rattle.std.proofs.lemmas.List.{nil_from_length}
use Rattle.std.specs.Ordering.{eq_by_cmp, is_eq}
use Rattle.std.specs.List.{list_any}
use Rattle.std.proofs.lemmas.Bool.{true≢false, and_parts}
use Rattle.dup_names.specs.contracts.object.ObjOrd.TheImpl.{ghosts as order}
use Rattle.dup_names.specs.Order.{text_cmp}
use Rattle.dup_model.specs.Editions.{has}
use Rattle.dup_bundle.specs.Between.{is_needed}
use Rattle.dup_bundle.proofs.Hinting.{last_there}
use Rattle.dup_bundle.proofs.Waiting.{held_below}
use Rattle.dup_names.specs.Words.{Path}
use Rattle.dup_model.specs.Bundles.{reached}
use Rattle.dup_bundle.proofs.Walk.{IsWalk, begun, smaller, stepped, walked}
use Rattle.dup_bundle.proofs.finding.walk_down.Goals as goal

pub loop-path-init : goal.loop-path-init
loop-path-init c = (
  begun (is_needed c.args.edition.now c.args.target.now) c.args.changed.now c.args.start.now c.requires.start _ _
      (λ q. c.in_ok-add_path.ensures.has q ∙ ap (λ l. eq_by_cmp text_cmp q c.args.start.now || has l q) c.new-seen.ensures.empty)
      (c.in_ok-push.ensures.items ∙ ap (λ l. l ++ c.args.start.now ∷ []) c.new-due.ensures.items)
      c.add_path.ensures.order,
  λ o none. absurd (true≢false (sym none ∙ ap (λ l. list_any (λ x. is_eq (order.cmp o x)) l) c.new-done.ensures.empty)),
)

pub loop-path-preserved : goal.loop-path-preserved
loop-path-preserved c = (
  stepped (is_needed c.args.edition.now c.args.target.now) c.args.changed.now c.args.start.now c.in-Some.path c.loop-path.seen.keys c.pop.new.self.items _ _
      c.in_ok-add_needed.ensures.seen c.in_ok-add_needed.ensures.due c.loop-path.due.items c.in-Some.ensures.items c.add_needed.ensures.order c.loop-path.invariant.0,
  c.in_ok-add_needed.ensures.done,
)

pub loop-path-smaller : goal.loop-path-smaller
loop-path-smaller c =
    smaller (is_needed c.args.edition.now c.args.target.now) c.args.changed.now c.args.start.now c.in-Some.path c.loop-path.seen.keys c.pop.new.self.items _ _
    c.in_ok-add_needed.ensures.seen c.in_ok-add_needed.ensures.due c.loop-path.due.items c.in-Some.ensures.items c.loop-path.invariant.0 (loop-path-preserved c).0 c.in_ok-add_needed.ensures.count

pub returns-clause-all : goal.returns-clause-all
returns-clause-all c = walked (is_needed c.args.edition.now c.args.target.now) c.args.changed.now c.args.start.now _
    c.requires.changed.order
    (subst (IsWalk (is_needed c.args.edition.now c.args.target.now) c.args.changed.now c.args.start.now c.loop-path.seen.keys) (nil_from_length c.loop-path.due.items (omega (arith, c.in_default.ensures.cases.0))) c.loop-path.invariant.0)

pub returns-then-is_under-clause-held : goal.returns-then-is_under-clause-held
returns-then-is_under-clause-held c =
    let need : Path → Path → Bool = is_needed c.args.edition.now c.args.target.now in
    let path : Path = c.in-Some.path in
    let there : (has c.args.changed.now path && reached need c.args.changed.now c.args.start.now path) ≡ true =
    c.loop-path.invariant.0.sound path (c.loop-path.invariant.0.waits path (ap (λ l. has l path) c.in-Some.ensures.items ∙ last_there c.pop.new.self.items path)) in
    held_below need c.args.changed.now c.args.ways.now.levels c.level-level.result c.requires.levels c.args.start.now path c.requires.start (and_parts _ _ there).0 (and_parts _ _ there).1
    c.level-level.ensures (sym c.is_under.ensures ∙ c.if-is_under.true)
