use Rattle.dup_build.proofs.loose.is_embedded.Given as goal

abbrev pub ghosts-embedded_counted : goal.ghosts-embedded_counted
ghosts-embedded_counted a = record { name = a.blank.name; parts = a.blank.parts }
