use Rattle.dup_eyes.proofs.presses.windows_show_what_a_press_publishes.Given as goal

-- the book that was just opened, and the site
abbrev pub ghosts-two_windows : goal.ghosts-two_windows
ghosts-two_windows g a = record { book = a.opened; site = a.site.value }
