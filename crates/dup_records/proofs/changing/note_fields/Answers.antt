use Rattle.std.proofs.Common.{subst, sym, add-one}
use Rattle.dup_records.specs.Moved.{Notes, moved_field, moved_fields}
use Rattle.dup_records.proofs.Noted.{notes_more}
use Rattle.dup_records.proofs.changing.note_fields.Goals as goal

pub loop-field-preserved : goal.loop-field-preserved
loop-field-preserved c =
    let moved = moved_fields c.args.old.now c.args.new.now c.args.kind c.args.key.now in
    subst (λ n. Notes c.args.noted.now.keys c.note_field.new.noted.keys (moved n)) (sym (add-one c.loop-field.field))
    (notes_more _ c.loop-field.noted.keys _ (moved c.loop-field.field) (moved_field c.args.old.now c.args.new.now c.args.kind c.args.key.now c.loop-field.field) c.loop-field.invariant c.in_ok-note_field.ensures)
