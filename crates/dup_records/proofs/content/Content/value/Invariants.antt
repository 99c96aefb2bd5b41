use Rattle.dup_records.proofs.content.Content.value.Given as goal

abbrev pub ghosts-value_by : goal.ghosts-value_by
ghosts-value_by a = record { name = a.blank.name; parts = a.blank.parts }
