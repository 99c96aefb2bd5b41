use Rattle.std.proofs.Common.{◌≡◌, map, take}
use Rattle.dup_records.proofs.content.shared_tables.Given as goal

abbrev pub invariant-loop-table : goal.invariant-loop-table
invariant-loop-table l = map (λ t. t.value) l.made.items ≡ map (λ t. t.value) (take l.table-index l.tables)
