use Rattle.dup_model.proofs.Tables.{rising_put}
use Rattle.dup_model.specs.Names.{fields_at}
use Rattle.dup_records.proofs.Fits.{fit_with}
use Rattle.dup_records.proofs.content.Content.with_put.Goals as goal

pub with_rows-requires-clause-rising : goal.with_rows-requires-clause-rising
with_rows-requires-clause-rising c = rw c.in_ok-made.ensures (rising_put _ _ c.rows-rows.ensures.rising)

pub with_rows-requires-clause-fit : goal.with_rows-requires-clause-fit
with_rows-requires-clause-fit c =
    rw (c.in_ok-made.ensures, c.in_ok-of.ensures, c.in_ok-set_fields.ensures, c.in_ok-texts.ensures, c.row.ensures, c.fields-names.ensures)
    (fit_with (fields_at c.args.self.now.frame c.args.kind) c.args.fields.now c.args.key.now c.rows-rows.result.now c.rows-rows.ensures.fit)

pub returns : goal.returns
returns c =
    rw (← c.fields-names.ensures, ← c.rows-rows.ensures.value, ← c.row.ensures, ← c.in_ok-texts.ensures, ← c.in_ok-set_fields.ensures, ← c.in_ok-of.ensures, ← c.in_ok-made.ensures) c.with_rows.ensures
