-- What calls of a cache do to its entries.
use Rattle.std.specs.Prelude.{Bool, not, List, bytes_eq}
use Rattle.std.specs.List.{filter, list_any}
use Rattle.std.specs.Option.{option_map_or}
use Rattle.dup_names.specs.Words.{Path}
use Rattle.dup_model.specs.Editions.{Page}
use Rattle.dup_model.specs.Caches.{Cache, entry, with_first}

-- the pages of other paths
abbrev pub without : List Page → Path → List Page
without pages path = filter (λ page. not (bytes_eq page.path path)) pages

-- a page has this path
abbrev pub has_path : List Page → Path → Bool
has_path pages path = list_any (λ page. bytes_eq page.path path) pages

-- the entry of a path stands first, if there is one
abbrev pub touched : Path → Cache → Cache
touched path cache = option_map_or (λ page. with_first page cache) (entry cache path) cache

-- the entry of a path left, if there was one
abbrev pub evicted : Path → Cache → Cache
evicted path cache = record cache { entries = without cache.entries path }
