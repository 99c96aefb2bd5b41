-- Pages by their paths, as they are put one after the other.
use Rattle.std.specs.Prelude.{ℕ, List, ◌∷◌, ◌++◌, Some, map}
use Rattle.std.specs.List.{fold}
use Rattle.std.specs.BTreeMap.{insert_entry}
use Rattle.dup_names.specs.Order.{text_cmp}
use Rattle.dup_names.specs.Words.{Word, Path}
use Rattle.dup_names.specs.declared.object.Obj.{Obj}

-- the pages that a family of a template has for rows with these keys
abbrev pub pages_for : Word → ℕ → List Word → List (Path × Obj)
pages_for prefix template keys =
    map (λ key. (prefix ++ 47 ∷ key, record { template = template; key = Some key })) keys

-- a page at its place in the order of paths, or instead of the one that its path had
abbrev pub with_page : List (Path × Obj) → Path × Obj → List (Path × Obj)
with_page pages page = insert_entry text_cmp pages page.0 page.1

-- these pages put one after the other
abbrev pub with_pages : List (Path × Obj) → List (Path × Obj) → List (Path × Obj)
with_pages pages more = fold with_page pages more
