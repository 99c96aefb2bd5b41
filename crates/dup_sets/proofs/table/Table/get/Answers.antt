use Rattle.std.proofs.Common.{sym, ap, ◌∙◌}
use Rattle.dup_sets.specs.Entries.{at}
use Rattle.dup_sets.proofs.Entries.{at_ordered, found_is}
use Rattle.dup_sets.proofs.table.Table.get.Goals as goal

pub returns : goal.returns
returns g c =
    c.get.ensures.value
    ∙ found_is c.args.obj.now c.self.inside.entries.entries
    ∙ sym (at_ordered c.self.inside.entries.entries c.args.obj.now)
    ∙ ap (λ es. at es c.args.obj.now) c.self.view_is
