-- What is told of a reading that is known.
use Rattle.std.specs.Prelude.{◌≡◌, ℕ, true, not, ◌++◌, Option, Some, None}
use Rattle.std.specs.List.{list_all}
use Rattle.dup_names.specs.Lines.{Reading, Next, is_feed, reading}
use Rattle.dup_names.specs.Words.{Word}

-- the known reading is this line, and then the known rest
abbrev pub GivesLine : Option Reading → Option Reading → Word → Type 0
GivesLine None rest line = Unit {0}
GivesLine (Some all) None line = ⊥
GivesLine (Some all) (Some rest) line = all ≡ Next line rest

-- the known reading is this
abbrev pub IsReading : Option Reading → Reading → Type 0
IsReading None reading = Unit {0}
IsReading (Some all) reading = all ≡ reading

-- no line ends in these bytes
abbrev pub IsPart : Word → Type 0
IsPart bytes = list_all (λ byte. not (is_feed byte)) bytes ≡ true

-- the reading goes on with a part of a line, and behind it with these bytes
abbrev pub GoesOnWith : Reading → Word → Type 0
GoesOnWith all left =
    (part : Word) × (number : ℕ) × (taken : ℕ) × IsPart part × (all ≡ reading number taken (part ++ left))

-- the known reading stopped within its first line, and these known bytes are left
abbrev pub StopsInLine : Option Reading → Option Word → Type 0
StopsInLine None left = Unit {0}
StopsInLine (Some all) None = ⊥
StopsInLine (Some all) (Some left) = GoesOnWith all left
