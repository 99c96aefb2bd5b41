use Rattle.std.proofs.Common.{sym, ap, ◌∙◌, ◌∷◌, take}
use Rattle.std.proofs.lemmas.List.{take_all}
use Rattle.dup_names.specs.Order.{obj_cmp}
use Rattle.dup_names.specs.Words.{in_order}
use Rattle.dup_sets.proofs.Sets.{taken_push, put_last}
use Rattle.dup_sets.proofs.obj_set.ObjSet.of.Goals as goal

pub loop-obj-preserved : goal.loop-obj-preserved
loop-obj-preserved c =
    c.in_ok-add.ensures.ok
    ∙ ap (λ l. in_order obj_cmp (c.obj-item.result ∷ l)) c.loop-obj.invariant
    ∙ put_last c.obj-item.result (take c.loop-obj.obj-index c.args.objs.now)
    ∙ ap (in_order obj_cmp) (sym (taken_push c.args.objs.now c.loop-obj.obj-index c.obj-item.result c.loop-obj-test.true c.obj-item.is))

pub returns : goal.returns
returns c = c.loop-obj.invariant ∙ ap (in_order obj_cmp) (take_all c.loop-obj.obj-index c.args.objs.now c.loop-obj-test.false)
