use Rattle.dup_records.proofs.SameKeys.{keys_same}
use Rattle.dup_records.proofs.agreeing.are_keys.Goals as goal

pub returns-in-Keys : goal.returns-in-Keys
returns-in-Keys g c = rw (c.in-Keys.is, ← c.items.ensures) (keys_same _ _ _ c.have_keys.ensures)
