use Rattle.dup_build.proofs.missing.lower_above.Given as goal

abbrev pub ghosts-lower_counted : goal.ghosts-lower_counted
ghosts-lower_counted a = record { name = a.blank.name; parts = a.blank.parts }
