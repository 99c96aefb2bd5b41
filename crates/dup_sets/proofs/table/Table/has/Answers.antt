use Rattle.std.proofs.Common.{sym, ap, ◌∙◌}
use Rattle.std.specs.Prelude.{is_some}
use Rattle.dup_sets.proofs.Entries.{at_in, some_copied}
use Rattle.dup_sets.proofs.table.Table.has.Goals as goal

pub returns : goal.returns
returns g c = c.is_some.ensures ∙ some_copied c.get.result ∙ ap is_some c.get.ensures ∙ sym (at_in c.args.self.now c.args.obj.now)
