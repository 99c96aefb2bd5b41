-- Deeds of a book, and the word that names a book.
use Rattle.std.specs.Prelude.{ℕ, List, [], ◌∷◌}
use Rattle.logbook.specs.Pages.{Book}
use Rattle.dup_live.specs.declared.deed.Deed.{Deed}
use Rattle.dup_live.specs.declared.deed.Story.{Story}

abbrev pub story : Book → List Deed → Story
story book deeds = record { which = book; deeds = deeds }

-- the word by which the published log of a book is told apart
abbrev pub word_of : Book → List ℕ
word_of book = book.number ∷ book.log_name ∷ book.cells_name ∷ []
