use Rattle.std.proofs.Common.{sym, ◌∷◌, [], take, subst}
use Rattle.std.proofs.lemmas.List.{take_all}
use Rattle.dup_build.specs.Nodes.{below, seen}
use Rattle.dup_machine.specs.Reached.{Walked}
use Rattle.dup_sets.proofs.Sets.{taken_push}
use Rattle.dup_build.proofs.Walking.{walked_then, walked_all}
use Rattle.dup_build.proofs.reach.reach.Goals as goal

pub loop-root-preserved : goal.loop-root-preserved
loop-root-preserved c =
    subst (λ l. Walked (below c.args.nodes.now c.args.dropped.now) (seen c.args.looks.now c.args.stale.now c.args.others.now) l c.new-fresh.result c.visit.new.fresh)
    (sym (taken_push c.args.roots.now c.loop-root.root-index c.root-item.result c.loop-root-test.true c.root-item.is))
    (walked_then (below c.args.nodes.now c.args.dropped.now) (seen c.args.looks.now c.args.stale.now c.args.others.now) (take c.loop-root.root-index c.args.roots.now) (c.root-item.result ∷ [])
    c.new-fresh.result c.loop-root.fresh c.visit.new.fresh c.loop-root.invariant c.in_ok-visit.ensures)

pub returns : goal.returns
returns c =
    let down = below c.args.nodes.now c.args.dropped.now in
    walked_all down (seen c.args.looks.now c.args.stale.now c.args.others.now) c.args.roots.now c.loop-root.fresh
    (subst (λ l. Walked down (seen c.args.looks.now c.args.stale.now c.args.others.now) c.args.roots.now l c.loop-root.fresh) c.new-fresh.ensures
    (subst (λ l. Walked down (seen c.args.looks.now c.args.stale.now c.args.others.now) l c.new-fresh.result c.loop-root.fresh) (take_all c.loop-root.root-index c.args.roots.now c.loop-root-test.false) c.loop-root.invariant))
