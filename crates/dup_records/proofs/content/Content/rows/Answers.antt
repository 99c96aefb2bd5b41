use Rattle.std.proofs.Common.{map}
use Rattle.dup_model.proofs.Tables.{rising_at}
use Rattle.dup_records.proofs.content.Content.rows.Goals as goal

pub returns-clause-rising : goal.returns-clause-rising
returns-clause-rising c = rw (c.table_at.ensures, c.deref.ensures.value, c.deref-2.ensures, c.self.invariant.3) (rising_at (map (λ t. t.value) c.self.inside.tables.items) c.from.result c.self.invariant.1)
