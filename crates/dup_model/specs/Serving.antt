-- What a cache holds, and that what is answered from it is true. The law above: `serving_law`.
use Rattle.std.specs.Prelude.{◌≡◌, ℕ, ◌≤◌, ◌<◌, Bool, not, List, Some, None, length, take, bytes_eq}
use Rattle.std.specs.List.{filter, AllByRecursion}
use Rattle.std.specs.FinMap as fin
use Rattle.dup_names.specs.Words.{Path}
use Rattle.dup_template.specs.declared.site.Parts.{Parts}
use Rattle.dup_model.specs.Editions.{Page, Bundle, edition}
use Rattle.dup_model.specs.Logs.{IsGoodLog}
use Rattle.dup_model.specs.Caches.{Cache, catch_up}
use Rattle.dup_model.specs.Answers.{Reply, answer}
use Rattle.dup_model.specs.Answers.Reply.{Found, Absent, Ahead}

-- each page of an edition stands under its own path, as in every good log
abbrev pub PagesArePlaced : List Bundle → Type 0
PagesArePlaced log = (k : ℕ) → k ≤ length log → (p : Path) (page : Page) →
    fin.get (edition (take k log)) p ≡ Some page → page.path ≡ p

abbrev pub GoodLogsPlacePages : Type 0
GoodLogsPlacePages = (site : Parts) (log : List Bundle) → IsGoodLog site log → PagesArePlaced log

-- the cache's edition is one of the log, and each entry is its path's page there
pub record HoldsPagesOf (log : List Bundle) (cache : Cache) : Type 0 where
  pub within : cache.number ≤ length log
  pub pages : AllByRecursion
      (λ page. fin.get (edition (take cache.number log)) page.path ≡ Some page) cache.entries

-- a reply that is true of a log: what is found is its path's page in an edition no older than the pass, what
-- is absent isn't there, and one is ahead of the newest
abbrev pub IsTrueReply : List Bundle → ℕ → Path → Reply → Type 0
IsTrueReply log pass path (Found e page how) = (pass ≤ e) × (e ≤ length log)
    × (fin.get (edition (take e log)) path ≡ Some page)
IsTrueReply log pass path (Absent e) = (pass ≤ e) × (e ≤ length log)
    × (fin.get (edition (take e log)) path ≡ None)
IsTrueReply log pass path (Ahead named e) = (named ≡ pass) × (e ≡ length log) × (e < pass)

abbrev pub CatchingUpHolds : Type 0
CatchingUpHolds = (log : List Bundle) (cache : Cache) → PagesArePlaced log → HoldsPagesOf log cache →
    HoldsPagesOf log (catch_up log cache)

abbrev pub AnswersAreTrue : Type 0
AnswersAreTrue = (log : List Bundle) (cache : Cache) (pass : ℕ) (path : Path) (kept : Bool) →
    PagesArePlaced log → HoldsPagesOf log cache →
    HoldsPagesOf log (answer cache log pass path kept).cache
    × IsTrueReply log pass path (answer cache log pass path kept).reply

abbrev pub EvictingHolds : Type 0
EvictingHolds = (log : List Bundle) (cache : Cache) (path : Path) → HoldsPagesOf log cache →
    HoldsPagesOf log (record cache { entries = filter (λ page. not (bytes_eq page.path path)) cache.entries })
