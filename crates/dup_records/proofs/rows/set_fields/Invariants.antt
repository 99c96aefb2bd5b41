use Rattle.std.proofs.Common.{◌≡◌, drop}
use Rattle.dup_model.specs.Commits.{with_fields}
use Rattle.dup_records.proofs.rows.set_fields.Given as goal

abbrev pub invariant-loop-field : goal.invariant-loop-field
invariant-loop-field l = with_fields l.names (drop l.field-index l.fields) l.texts.items ≡ with_fields l.names l.fields l.initial.texts.items
