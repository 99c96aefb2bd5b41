-- The rule of what is published, and what its steps tell.
use Rattle.std.specs.Prelude.{◌≡◌, ℕ, List}
use mathlib.Core.Option.{some}
use lib.ListN.{get_elem?}
use Rattle.logbook.specs.Pages.{Book}
use Rattle.dup_template.specs.declared.site.Parts.{Parts}
use Rattle.dup_model.specs.Editions.{Bundle}
use Rattle.dup_model.specs.Logs.{IsGoodLog}
use Rattle.dup_cache.specs.Holding.{BeginsWith}
use Rattle.dup_live.specs.declared.shown.State.{State}

-- it is published under this book, for this site
abbrev pub IsOf : Book → Parts → State → Type 0
IsOf book site s = (s.which ≡ book) × (s.edition.site ≡ site)

-- the log is good, and begins with what each thread has seen
abbrev pub IsKept : Parts → List Bundle → List (List Bundle) → Type 0
IsKept site log views = IsGoodLog site log
    × ((seat : ℕ) (seen : List Bundle) → get_elem? views seat ≡ some seen → BeginsWith log seen)

-- the log was seen: it is good, and begins with what was seen before
abbrev pub Reads : Parts → List Bundle → List Bundle → List Bundle → Type 0
Reads site before log now = (now ≡ log) × BeginsWith log before × IsGoodLog site log
