use Rattle.std.proofs.Common.{◌≡◌, ◌+◌, drop, length}
use Rattle.std.specs.List.{sum_by}
use Rattle.dup_records.proofs.journal.behind_fields.Given as goal

abbrev pub invariant-loop-field : goal.invariant-loop-field
invariant-loop-field l =
    l.fn.room + sum_by (λ f. length f.0 + length f.1) (drop l.field-index l.fields)
    ≡ l.room + sum_by (λ f. length f.0 + length f.1) l.fields
