use Rattle.std.proofs.Common.{◌∷◌, [], sym, take, subst}
use Rattle.std.proofs.lemmas.List.{take_all}
use Rattle.dup_build.specs.Loose.{shown_by, LetGo}
use Rattle.dup_sets.proofs.Sets.{taken_push}
use Rattle.dup_build.proofs.Holding.{let_none, let_then}
use Rattle.dup_build.proofs.loose.let_all_go.Goals as goal

pub loop-obj-init : goal.loop-obj-init
loop-obj-init c = let_none c.args.nodes.now (shown_by c.args.pages.now) c.new-gone.result

pub loop-obj-preserved : goal.loop-obj-preserved
loop-obj-preserved c =
    subst (λ l. LetGo (shown_by c.args.pages.now) c.args.nodes.now l c.new-gone.result c.let_go.new.gone)
    (sym (taken_push c.args.free.now c.loop-obj.obj-index c.obj-item.result c.loop-obj-test.true c.obj-item.is))
    (let_then c.args.nodes.now (shown_by c.args.pages.now) (take c.loop-obj.obj-index c.args.free.now) (c.obj-item.result ∷ [])
    c.new-gone.result c.loop-obj.gone c.let_go.new.gone c.loop-obj.invariant c.in_ok-let_go.ensures)

pub returns : goal.returns
returns c =
    subst (λ l. LetGo (shown_by c.args.pages.now) c.args.nodes.now c.args.free.now l c.loop-obj.gone) c.new-gone.ensures
    (subst (λ l. LetGo (shown_by c.args.pages.now) c.args.nodes.now l c.new-gone.result c.loop-obj.gone) (take_all c.loop-obj.obj-index c.args.free.now c.loop-obj-test.false) c.loop-obj.invariant)
