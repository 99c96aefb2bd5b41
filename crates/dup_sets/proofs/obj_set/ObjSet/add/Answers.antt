use Rattle.std.proofs.Common.{ap, ◌∙◌, ◌∷◌}
use Rattle.dup_names.specs.Order.{obj_cmp}
use Rattle.dup_names.specs.Words.{in_order}
use Rattle.dup_sets.proofs.Trees.{tree_ordered, insert_is}
use Rattle.dup_sets.proofs.obj_set.ObjSet.add.Goals as goal

pub invariant_of-self-2 : goal.invariant_of-self-2
invariant_of-self-2 c = tree_ordered c.insert.new.self.keys c.insert.ensures.ordered

pub returns-clause-ok : goal.returns-clause-ok
returns-clause-ok c =
    c.in_ok-insert.ensures.keys
    ∙ insert_is c.args.obj c.self.inside.objs.keys c.self.invariant
    ∙ ap (λ l. in_order obj_cmp (c.args.obj ∷ l)) c.self.view_is
