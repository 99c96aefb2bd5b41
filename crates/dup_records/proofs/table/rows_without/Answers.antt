use Rattle.std.proofs.Common.{◌≡◌, true, false, sym, ◌∙◌}
use Rattle.std.specs.Prelude.{is_some}
use Rattle.std.specs.List.{find}
use Rattle.dup_names.specs.Words.{same}
use Rattle.dup_model.specs.Content.{Entry}
use Rattle.dup_records.proofs.RowPlaces.{falls, row_out, stays}
use Rattle.dup_records.proofs.table.rows_without.Goals as goal

pub removed-requires : goal.removed-requires
removed-requires c = falls c.args.key.now c.args.rows.now c.requires

pub returns-then-is_there : goal.returns-then-is_there
returns-then-is_there c =
    let there : is_some (find (λ (e : Entry). same e.0 c.args.key.now) c.args.rows.now) ≡ true = sym c.is_there.ensures ∙ c.if-is_there.true in
    rw (row_out c.args.key.now c.args.rows.now c.requires there) c.removed.ensures

pub returns-else-is_there : goal.returns-else-is_there
returns-else-is_there c =
    let absent : is_some (find (λ (e : Entry). same e.0 c.args.key.now) c.args.rows.now) ≡ false = sym c.is_there.ensures ∙ c.if-is_there.false in
    rw (stays c.args.key.now c.args.rows.now absent) c.copy.ensures
