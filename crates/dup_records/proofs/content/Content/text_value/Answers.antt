use Rattle.dup_records.proofs.content.Content.text_value.Goals as goal

pub returns : goal.returns
returns g c = rw (← c.rows.ensures.value, ← c.find-row.ensures, ← c.from.ensures, ← c.text_of.ensures) c.text_or_empty.ensures
