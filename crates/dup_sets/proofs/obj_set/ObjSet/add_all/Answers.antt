use Rattle.std.proofs.Common.{sym, ap, ◌∙◌, ◌∷◌, subst}
use Rattle.dup_names.specs.Order.{obj_cmp}
use Rattle.dup_names.specs.Words.{in_order}
use Rattle.dup_names.specs.Objects.{is_in}
use Rattle.dup_model.specs.Touched.{without}
use Rattle.dup_machine.proofs.InOrder.{IsOrdered}
use Rattle.dup_sets.proofs.Sets.{added_more, added_back}
use Rattle.dup_sets.proofs.obj_set.ObjSet.add_all.Goals as goal

pub loop-obj-init : goal.loop-obj-init
loop-obj-init c = sym (subst IsOrdered c.self.view_is c.self.invariant)

pub loop-obj-preserved : goal.loop-obj-preserved
loop-obj-preserved c =
    c.in_default.ensures.ok
    ∙ ap (λ l. in_order obj_cmp (c.obj-item.result ∷ l)) c.loop-obj.invariant
    ∙ added_more c.args.objs.now c.loop-obj.obj-index c.obj-item.result c.loop-obj-test.true c.obj-item.is c.args.self.now

pub returns-in-loop-obj-clause-err : goal.returns-in-loop-obj-clause-err
returns-in-loop-obj-clause-err c =
    c.remove_all.ensures
    ∙ ap (without (is_in c.args.objs.now)) (c.in-Err.ensures.err ∙ c.loop-obj.invariant)
    ∙ added_back c.args.objs.now c.loop-obj.obj-index c.args.self.now (subst IsOrdered c.self.view_is c.self.invariant) c.requires
