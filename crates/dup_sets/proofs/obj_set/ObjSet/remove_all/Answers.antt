use Rattle.std.proofs.Common.{sym, ap, ◌∙◌}
use Rattle.std.proofs.lemmas.List.{take_all}
use Rattle.dup_names.specs.Objects.{same_obj, is_in}
use Rattle.dup_model.specs.Touched.{without}
use Rattle.dup_sets.proofs.Sets.{without_none, without_more}
use Rattle.dup_sets.proofs.obj_set.ObjSet.remove_all.Goals as goal

pub loop-obj-init : goal.loop-obj-init
loop-obj-init c = sym (without_none c.args.self.now)

pub loop-obj-preserved : goal.loop-obj-preserved
loop-obj-preserved c =
    c.remove.ensures
    ∙ ap (without (same_obj c.obj-item.result)) c.loop-obj.invariant
    ∙ without_more c.args.objs.now c.loop-obj.obj-index c.obj-item.result c.loop-obj-test.true c.obj-item.is c.args.self.now

pub returns : goal.returns
returns c = c.loop-obj.invariant ∙ ap (λ l. without (is_in l) c.args.self.now) (take_all c.loop-obj.obj-index c.args.objs.now c.loop-obj-test.false)
