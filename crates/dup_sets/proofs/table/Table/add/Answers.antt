use Rattle.std.proofs.Common.{ap, subst, ◌∙◌, ◌∷◌, cond, Some}
use Rattle.dup_names.specs.Objects.{same_obj}
use Rattle.dup_names.specs.Order.{obj_cmp}
use Rattle.dup_names.specs.Words.{in_order}
use Rattle.dup_sets.specs.Entries.{at, objs, by_object}
use Rattle.dup_machine.proofs.InOrder.{IsOrdered}
use Rattle.dup_sets.proofs.Entries.{ordered_objs, updated_at, objs_added}
use Rattle.dup_sets.proofs.table.Table.add.Goals as goal

pub returns-clause-at : goal.returns-clause-at
returns-clause-at g c =
    λ q. updated_at c.args.obj c.self.inside.entries.entries c.insert.new.self.entries (Some c.args.kept) q (c.in_ok-insert.ensures.updates.0 q)
    ∙ ap (λ es. cond (same_obj q c.args.obj) (Some c.args.kept) (at es q)) c.self.view_is

pub returns-clause-objs : goal.returns-clause-objs
returns-clause-objs g c =
    objs_added c.args.obj (by_object c.self.inside.entries.entries) (by_object c.insert.new.self.entries) c.args.kept
    (ordered_objs c.insert.new.self.entries)
    (λ q. updated_at c.args.obj c.self.inside.entries.entries c.insert.new.self.entries (Some c.args.kept) q (c.in_ok-insert.ensures.updates.0 q))
    ∙ ap (λ es. in_order obj_cmp (c.args.obj ∷ objs es)) c.self.view_is

pub returns-clause-rising : goal.returns-clause-rising
returns-clause-rising g c = subst (λ es. IsOrdered (objs es)) c.self.view_is (ordered_objs c.self.inside.entries.entries)

pub returns-in_err-insert-clause-rising : goal.returns-in_err-insert-clause-rising
returns-in_err-insert-clause-rising g c = subst (λ es. IsOrdered (objs es)) c.self.view_is (ordered_objs c.self.inside.entries.entries)
