use Rattle.dup_records.proofs.content.Content.keys.Given as goal

abbrev pub ghosts-keys_by : goal.ghosts-keys_by
ghosts-keys_by a = record { name = a.blank.name; parts = a.blank.parts }
