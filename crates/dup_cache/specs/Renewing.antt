-- Entries that take the pages of an edition.
use Rattle.std.specs.Prelude.{◌≡◌, ◌++◌, List, [], Option, Some, IfSome, bytes_eq, map, if◌then◌else◌}
use Rattle.std.specs.List.{filter, filter_map, flat_map, fold, AllByRecursion}
use Rattle.std.specs.Option.{option_map}
use Rattle.std.specs.FinMap as fin
use Rattle.dup_names.specs.Words.{Path}
use Rattle.dup_model.specs.Editions.{Bundle, Edition, Page}
use Rattle.dup_cache.specs.Entries.{has_path, without}
use Rattle.dup_cache.specs.declared.renewal.Renewal.{Renewal}
use Rattle.dup_edition.specs.declared.edition.Changes.{Changes}
use Rattle.dup_edition.specs.declared.edition.Changes.TheVariants.{All, Named}

-- the paths that a bundle names
abbrev pub named : Bundle → List Path
named b = map (λ page. page.path) b.puts ++ b.drops

-- without the pages that these bundles name
abbrev pub unnamed : List Page → List Bundle → List Page
unnamed pages bundles = fold without pages (flat_map named bundles)

-- a path, and what is there from now on
abbrev pub Renewed : Type 0
Renewed = Path × Option Page

abbrev pub seen_one : Renewal → Renewed
seen_one r = (r.key.path, option_map (λ p. p.value) r.page)

abbrev pub seen : List Renewal → List Renewed
seen renewals = map seen_one renewals

-- what an edition has at these paths
abbrev pub asked : Edition → List Path → List Renewed
asked e paths = map (λ path. (path, fin.get e path)) paths

-- what it has at those of them that are entries
abbrev pub due : Edition → List Page → List Path → List Renewed
due e pages paths = asked e (filter (has_path pages) paths)

abbrev pub paths_of : List Page → List Path
paths_of pages = map (λ page. page.path) pages

-- the page of the path gives way to the new one, or leaves
abbrev pub renewed : List Page → Renewed → List Page
renewed pages r = filter_map (λ page. if bytes_eq page.path r.0 then r.1 else Some page) pages

-- each new page has its path
abbrev pub ArePlaced : List Renewed → Type 0
ArePlaced = AllByRecursion (λ r. IfSome r.1 (λ page. page.path ≡ r.0))

-- what stays of the pages after these changes
abbrev pub left_by : Changes → List Page → List Page
left_by All pages = []
left_by (Named bundles) pages = unnamed pages (map (λ r. r.value) bundles.now)

-- what becomes of them
abbrev pub due_by : Changes → Edition → List Page → List Renewed
due_by All e pages = asked e (paths_of pages)
due_by (Named bundles) e pages = due e pages (flat_map named (map (λ r. r.value) bundles.now))
