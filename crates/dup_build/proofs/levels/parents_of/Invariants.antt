use Rattle.dup_build.proofs.levels.parents_of.Given as goal

abbrev pub ghosts-parents_counted : goal.ghosts-parents_counted
ghosts-parents_counted a = record { name = a.blank.name; parts = a.blank.parts }
