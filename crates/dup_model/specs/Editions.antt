-- Editions, bundles and logs. The law above: `closed_law`.
use Rattle.std.specs.Prelude.{◌≡◌, ℕ, ◌≤◌, List, Option, Some, length}
use Rattle.std.specs.List.{fold, flat_map, filter, filter_map, list_any}
use Rattle.std.specs.Option.{is_none, option_map}
use Rattle.std.specs.Ordering.{eq_by_cmp}
use Rattle.std.specs.FinMap as fin
use Rattle.dup_names.specs.Order.{text_cmp}
use Rattle.dup_names.specs.declared.value.Look.{Look}
use Rattle.dup_template.specs.declared.site.Parts.{Parts}
use Rattle.dup_names.specs.Words.{Path}
use Rattle.dup_model.specs.Commits.{Commit}
use Rattle.dup_model.specs.Pages.{Target}
use Rattle.dup_model.specs.Pages.{target_at}
use Rattle.dup_model.specs.Needs.{Looks, Paths, IsSound}

-- a page, with the version that it was rendered from
pub record Page : Type 0 where
  pub path : Path
  pub version : ℕ
  pub look : Look

abbrev pub Edition : Type 0
Edition = fin.FinMap text_cmp Page

abbrev pub looks : Edition → Looks
looks e p = option_map (λ page. page.look) (fin.get e p)

abbrev pub target_looks : Target → Looks
target_looks t p = fin.get t p

-- each entry is its path's page at its version, links lead to entries, and no object is shown in two ways
pub record IsConsistent (site : Parts) (history : List Commit) (e : Edition) : Type 0 where
  pub rendered : (p : Path) (page : Page) → fin.get e p ≡ Some page →
      (page.path ≡ p) × (page.version ≤ length history)
      × (fin.get (target_at site history page.version) p ≡ Some page.look)
  pub sound : IsSound (looks e)

-- a record of a log: a version, the commits since the last record's version, the pages put and the paths
-- dropped
pub record Bundle : Type 0 where
  pub version : ℕ
  pub commits : List Commit
  pub puts : List Page
  pub drops : List Path

abbrev pub put_page : Edition → Page → Edition
put_page e page = fin.insert e page.path page

abbrev pub drop_path : Edition → Path → Edition
drop_path e p = fin.remove e p

abbrev pub absorb : Edition → Bundle → Edition
absorb e bundle = fold drop_path (fold put_page e bundle.puts) bundle.drops

-- the edition that a log makes
abbrev pub edition : List Bundle → Edition
edition log = fold absorb fin.empty log

-- the commits of a log, one after the other
abbrev pub history : List Bundle → List Commit
history log = flat_map (λ bundle. bundle.commits) log

-- the page that a target has at p, as of a version
abbrev pub page_at : Target → ℕ → Path → Option Page
page_at t version p = option_map (λ look. record { path = p; version = version; look = look }) (fin.get t p)

-- these paths published as the target has them
abbrev pub bundle_of : Target → ℕ → List Commit → List Path → Bundle
bundle_of t version commits paths = record {
  version = version;
  commits = commits;
  puts = filter_map (page_at t version) paths;
  drops = filter (λ p. is_none (fin.get t p)) paths;
}

abbrev pub has : List Path → Paths
has paths p = list_any (eq_by_cmp text_cmp p) paths
