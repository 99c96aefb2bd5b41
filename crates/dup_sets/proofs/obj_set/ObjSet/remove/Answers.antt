use Rattle.std.proofs.Common.{ap, ◌∙◌}
use Rattle.dup_names.specs.Objects.{same_obj}
use Rattle.dup_model.specs.Touched.{without}
use Rattle.dup_sets.proofs.Trees.{tree_ordered, remove_is}
use Rattle.dup_sets.proofs.obj_set.ObjSet.remove.Goals as goal

pub invariant_of-self : goal.invariant_of-self
invariant_of-self c = tree_ordered c.remove.new.self.keys c.remove.ensures.ordered

pub returns : goal.returns
returns c =
    c.remove.ensures.keys ∙ remove_is c.args.obj.now c.self.inside.objs.keys c.self.invariant
    ∙ ap (without (same_obj c.args.obj.now)) c.self.view_is
