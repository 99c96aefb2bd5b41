-- When a cache holds the pages of a log. The law above: `holding_law`.
use Rattle.std.specs.Prelude.{◌≡◌, ◌++◌, List, Some}
use Rattle.std.specs.List.{AllByRecursion}
use Rattle.std.specs.FinMap as fin
use Rattle.dup_model.specs.Editions.{Bundle, Edition, Page}
use Rattle.dup_model.specs.Caches.{Cache, catch_up}
use Rattle.dup_model.specs.Serving.{HoldsPagesOf, PagesArePlaced}

-- each page is its path's page in an edition
abbrev pub AreOf : Edition → List Page → Type 0
AreOf e pages = AllByRecursion (λ page. fin.get e page.path ≡ Some page) pages

-- a log begins with another
abbrev pub BeginsWith : List Bundle → List Bundle → Type 0
BeginsWith log first = (rest : List Bundle) × (first ++ rest ≡ log)

-- what a cache holds is what the log has, however far it has grown since
abbrev pub GrowingHolds : Type 0
GrowingHolds = (log first : List Bundle) (cache : Cache) → BeginsWith log first → HoldsPagesOf first cache →
    HoldsPagesOf log cache

-- in whatever log, each page stands under its own path
abbrev pub PathsArePlaces : Type 0
PathsArePlaces = (log : List Bundle) → PagesArePlaced log

-- a cache that has caught up holds the log's pages
abbrev pub CaughtUpHolds : Type 0
CaughtUpHolds = (log : List Bundle) (cache : Cache) → HoldsPagesOf log cache → HoldsPagesOf log (catch_up log cache)
