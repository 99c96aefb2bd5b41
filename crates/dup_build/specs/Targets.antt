-- Targets.
use Rattle.std.specs.Prelude.{List, [], map, Option, Some, None}
use Rattle.std.specs.declared.alloc.Global.{Global}
use Rattle.std.specs.declared.sync.Arc.{Arc}
use Rattle.dup_names.specs.Words.{Path}
use Rattle.dup_names.specs.declared.value.Look.{Look}
use Rattle.dup_render.specs.declared.target.Target.{Target}

-- pages with their looks unshared
abbrev pub looks_by_path : List (Path × Arc Look Global) → List (Path × Look)
looks_by_path pages = map (λ p. (p.0, p.1.value)) pages

-- the looks of a target by path
abbrev pub looks_of : Target → List (Path × Look)
looks_of t = looks_by_path t.pages

-- those of a target, if there is one
abbrev pub pages_in : Option Target → List (Path × Look)
pages_in None = []
pages_in (Some t) = looks_of t
