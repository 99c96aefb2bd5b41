use Rattle.dup_eyes.proofs.openings.seventeen_windows_open.Given as goal

-- the book that was just opened, and the site
abbrev pub ghosts-open : goal.ghosts-open
ghosts-open g a = record { book = a.opened; site = a.site.value }
