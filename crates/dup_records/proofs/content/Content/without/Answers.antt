use Rattle.dup_model.proofs.Tables.{rising_filter}
use Rattle.dup_records.proofs.Fits.{fit_filter}
use Rattle.dup_records.proofs.content.Content.without.Goals as goal

pub with_rows-requires-clause-rising : goal.with_rows-requires-clause-rising
with_rows-requires-clause-rising c = rw c.in_ok-made.ensures (rising_filter _ _ c.rows.ensures.rising)

pub with_rows-requires-clause-fit : goal.with_rows-requires-clause-fit
with_rows-requires-clause-fit c = rw c.in_ok-made.ensures (fit_filter _ _ _ c.rows.ensures.fit)

pub returns : goal.returns
returns c = rw (← c.rows.ensures.value, ← c.in_ok-made.ensures) c.with_rows.ensures
