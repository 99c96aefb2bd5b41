-- A cache of pages, and how it catches up with a log. The law above: `serving_law`.
use Rattle.std.specs.Prelude.{ℕ, nat_lt, ◌∷◌, [], Bool, not, ◌||◌, List, Option, length, take, drop, bytes_eq, if◌then◌else◌}
use Rattle.std.specs.List.{filter, filter_map, find, list_any}
use Rattle.std.specs.FinMap as fin
use Rattle.dup_names.specs.Words.{Path}
use Rattle.dup_model.specs.declared.mode.Mode.{Mode}
use Rattle.dup_model.specs.declared.mode.Mode.TheVariants.{Invalidate, Update}
use Rattle.dup_model.specs.Editions.{Page, Edition, Bundle, edition}

-- entries are most recent first
pub record Cache : Type 0 where
  pub capacity : ℕ
  pub mode : Mode
  pub number : ℕ
  pub entries : List Page

-- a bundle names the path
abbrev pub names : Path → Bundle → Bool
names path b = list_any (λ page. bytes_eq page.path path) b.puts || list_any (bytes_eq path) b.drops

-- the entries once these bundles are known, the last of them making the edition e
abbrev pub caught_up : Mode → List Bundle → Edition → List Page → List Page
caught_up Invalidate bundles e entries =
    if nat_lt 64 (length bundles) then []
    else filter (λ page. not (list_any (names page.path) bundles)) entries
caught_up Update bundles e entries = filter_map (λ page. fin.get e page.path) entries

abbrev pub catch_up : List Bundle → Cache → Cache
catch_up log cache = record cache {
  number = length log;
  entries = caught_up cache.mode (drop cache.number log) (edition log) cache.entries;
}

abbrev pub entry : Cache → Path → Option Page
entry cache path = find (λ page. bytes_eq page.path path) cache.entries

-- the page stands first, and the last leaves a full cache
abbrev pub with_first : Page → Cache → Cache
with_first page cache =
    record cache {
      entries = take cache.capacity (page
          ∷ filter (λ other. not (bytes_eq other.path page.path)) cache.entries);
    }
