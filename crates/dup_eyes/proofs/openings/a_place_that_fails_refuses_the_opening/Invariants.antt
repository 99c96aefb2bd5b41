use Rattle.dup_eyes.proofs.openings.a_place_that_fails_refuses_the_opening.Given as goal

-- the book that was just opened, and the site
abbrev pub ghosts-open : goal.ghosts-open
ghosts-open g a = record { book = a.opened; site = a.site.value }
