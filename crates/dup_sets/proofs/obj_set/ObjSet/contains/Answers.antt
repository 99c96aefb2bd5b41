use Rattle.std.proofs.Common.{ap, ◌∙◌}
use Rattle.dup_names.specs.Objects.{is_in}
use Rattle.dup_sets.proofs.Trees.{contains_is}
use Rattle.dup_sets.proofs.obj_set.ObjSet.contains.Goals as goal

pub returns : goal.returns
returns c = c.contains.ensures ∙ contains_is c.args.obj.now c.self.inside.objs.keys ∙ ap (λ l. is_in l c.args.obj.now) c.self.view_is
