use Rattle.dup_records.specs.Moved.{Notes, moved_fields}
use Rattle.dup_records.proofs.changing.note_fields.Given as goal

abbrev pub invariant-loop-field : goal.invariant-loop-field
invariant-loop-field l = Notes l.initial.noted.keys l.noted.keys (moved_fields l.old l.new l.kind l.key l.field)
