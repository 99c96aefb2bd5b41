-- The entries of a table that keeps shared pages under their paths.
use Rattle.std.specs.Prelude.{◌≡◌, List, map}
use Rattle.std.specs.List.{AllByRecursion}
use Rattle.std.specs.declared.alloc.Global.{Global}
use Rattle.std.specs.declared.sync.Arc.{Arc}
use Rattle.dup_model.specs.Editions.{Page}
use Rattle.dup_cache.specs.declared.path_key.PathKey.{PathKey}

abbrev pub Table : Type 0
Table = List (PathKey × Arc Page Global)

abbrev pub pages_of : Table → List Page
pages_of entries = map (λ e. e.1.value) entries

-- each page stands under its own path
abbrev pub IsKeyed : Table → Type 0
IsKeyed = AllByRecursion (λ e. e.0.path ≡ e.1.value.path)
