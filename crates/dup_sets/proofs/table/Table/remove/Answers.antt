use Rattle.std.proofs.Common.{ap, ◌∙◌, cond, None}
use Rattle.dup_names.specs.Objects.{same_obj}
use Rattle.dup_model.specs.Touched.{without}
use Rattle.dup_sets.specs.Entries.{at, objs, by_object}
use Rattle.dup_sets.proofs.Entries.{ordered_objs, updated_at, objs_removed}
use Rattle.dup_sets.proofs.table.Table.remove.Goals as goal

pub returns-clause-at : goal.returns-clause-at
returns-clause-at g c =
    λ q. updated_at c.args.obj.now c.self.inside.entries.entries c.swap_remove.new.self.entries None q (c.swap_remove.ensures.updates.0 q)
    ∙ ap (λ es. cond (same_obj q c.args.obj.now) None (at es q)) c.self.view_is

pub returns-clause-objs : goal.returns-clause-objs
returns-clause-objs g c =
    objs_removed c.args.obj.now (by_object c.self.inside.entries.entries) (by_object c.swap_remove.new.self.entries)
    (ordered_objs c.self.inside.entries.entries) (ordered_objs c.swap_remove.new.self.entries)
    (λ q. updated_at c.args.obj.now c.self.inside.entries.entries c.swap_remove.new.self.entries None q (c.swap_remove.ensures.updates.0 q))
    ∙ ap (λ es. without (same_obj c.args.obj.now) (objs es)) c.self.view_is
