use Rattle.std.proofs.Common.{◌≡◌, ◌<◌, sym, ap, ◌∙◌, ◌∷◌, [], take, subst, arith, true}
use Rattle.std.proofs.lemmas.List.{take_all}
use Rattle.dup_names.specs.Objects.{is_in}
use Rattle.dup_build.specs.Nodes.{below, seen}
use Rattle.dup_machine.specs.Reached.{Walked}
use Rattle.dup_sets.proofs.Sets.{item_in, taken_push}
use Rattle.dup_build.proofs.Walking.{walked_then, walked_down, below_within}
use Rattle.dup_build.proofs.reach.+visit.Goals as goal

pub visit-requires : goal.visit-requires
visit-requires t c =
    let inside : is_in (below c.args.nodes.now c.args.dropped.now c.args.obj.now) c.child-item.result ≡ true =
    ap (λ l. is_in l c.child-item.result) (sym c.children-children.ensures) ∙ item_in c.children-children.result.now c.loop-child.child-index c.child-item.result c.loop-child-test.true c.child-item.is in
    let lower : c.child-item.result.template < c.args.obj.now.template =
    c.requires c.args.obj.now c.child-item.result (below_within c.args.nodes.now c.args.dropped.now c.args.obj.now c.child-item.result inside) in
    (omega (arith, lower, c.decreases), c.requires)

pub loop-child-preserved : goal.loop-child-preserved
loop-child-preserved t c =
    subst (λ l. Walked (below c.args.nodes.now c.args.dropped.now) (seen c.args.looks.now c.args.stale.now c.args.others.now) l c.add.new.self c.visit.new.fresh)
    (sym (taken_push c.children-children.result.now c.loop-child.child-index c.child-item.result c.loop-child-test.true c.child-item.is))
    (walked_then (below c.args.nodes.now c.args.dropped.now) (seen c.args.looks.now c.args.stale.now c.args.others.now) (take c.loop-child.child-index c.children-children.result.now) (c.child-item.result ∷ [])
    c.add.new.self c.loop-child.fresh c.visit.new.fresh c.loop-child.invariant c.in_ok-visit.ensures)

pub returns : goal.returns
returns t c =
    let down = below c.args.nodes.now c.args.dropped.now in
    let all : take c.loop-child.child-index c.children-children.result.now ≡ down c.args.obj.now =
    take_all c.loop-child.child-index c.children-children.result.now c.loop-child-test.false ∙ c.children-children.ensures in
    let unseen = sym c.is_seen.ensures ∙ c.if-is_seen.false in
    walked_down down (seen c.args.looks.now c.args.stale.now c.args.others.now) c.args.obj.now c.args.fresh.now c.loop-child.fresh unseen
    (subst (λ l. Walked down (seen c.args.looks.now c.args.stale.now c.args.others.now) (down c.args.obj.now) l c.loop-child.fresh) c.in_ok-add.ensures.ok
    (subst (λ l. Walked down (seen c.args.looks.now c.args.stale.now c.args.others.now) l c.add.new.self c.loop-child.fresh) all c.loop-child.invariant))
