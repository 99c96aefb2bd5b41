-- Targets as callers see them.
use Rattle.std.specs.Prelude.{◌≡◌, ℕ, false, List, map, IsTrue}
use Rattle.std.specs.FinMap as fin
use Rattle.std.specs.FinMap.Entries.{is_sorted}
use Rattle.std.specs.declared.alloc.Global.{Global}
use Rattle.std.specs.declared.sync.Arc.{Arc}
use Rattle.dup_names.specs.Order.{text_cmp}
use Rattle.dup_names.specs.Words.{Path}
use Rattle.dup_names.specs.declared.value.Look.{Look}
use Rattle.dup_model.specs.Editions.{has}
use Rattle.dup_model.specs.Pages.{Target as Pages}
use Rattle.dup_render.specs.declared.target.Target.{Target}

-- a version, and its target
pub record Aim : Type 0 where
  pub version : ℕ
  pub pages : Pages

-- each look under its path
abbrev pub looks_by_path : List (Path × Arc Look Global) → List (Path × Look)
looks_by_path pages = map (λ page. (page.0, page.1.value)) pages

-- the paths rise strictly
abbrev pub IsByPath : List (Path × Arc Look Global) → Type 0
IsByPath pages = IsTrue (is_sorted text_cmp (looks_by_path pages))

-- away from the touched paths the target is the same
abbrev pub IsSameElsewhere : List Path → Aim → Aim → Type 0
IsSameElsewhere touched old new = (p : Path) → has touched p ≡ false →
    fin.get old.pages p ≡ fin.get new.pages p

-- a target whose paths rise, as a map
abbrev pub aim_of : Target → Aim
aim_of t = record { version = t.version; pages = fin.from_sorted (looks_by_path t.pages) }
