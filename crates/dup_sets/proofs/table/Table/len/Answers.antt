use Rattle.std.proofs.Common.{length, ap, subst, ◌∙◌}
use Rattle.dup_sets.specs.Entries.{objs}
use Rattle.dup_machine.proofs.InOrder.{IsOrdered}
use Rattle.dup_sets.proofs.Entries.{length_ordered, ordered_objs}
use Rattle.dup_sets.proofs.table.Table.len.Goals as goal

pub returns-clause-value : goal.returns-clause-value
returns-clause-value g c =
    c.len.ensures.len
    ∙ length_ordered c.self.inside.entries.entries c.len.ensures.unique
    ∙ ap (λ es. length (objs es)) c.self.view_is

pub returns-clause-rising : goal.returns-clause-rising
returns-clause-rising g c = subst (λ es. IsOrdered (objs es)) c.self.view_is (ordered_objs c.self.inside.entries.entries)
