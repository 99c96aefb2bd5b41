-- The bundles of a target, one after the other.
use Rattle.std.specs.Prelude.{◌≡◌, Bool, not, List, [], ◌∷◌, Option, Some, None}
use Rattle.std.specs.List.{filter}
use Rattle.dup_names.specs.Words.{Path}
use Rattle.dup_model.specs.Bundles.{bundle_from}
use Rattle.dup_model.specs.Commits.{Commit}
use Rattle.dup_model.specs.Editions.{bundle_of, has}
use Rattle.dup_edition.specs.Logged.{Logged, appended}
use Rattle.dup_bundle.specs.Between.{bundle}
use Rattle.dup_bundle.specs.Targets.{Aim}

-- what is published from an edition to a target, bundle by bundle, until nothing is changed
abbrev pub IsSchedule : Logged → Aim → List (List Path) → Type 0
IsSchedule e t [] = bundle e t ≡ None
IsSchedule e t (paths ∷ later) = (bundle e t ≡ Some paths)
    × ((commits : List Commit) → IsSchedule (appended e (bundle_of t.pages t.version commits paths)) t later)

-- the same over the paths that are left, as these need each other
abbrev pub IsOrder : (Path → Path → Bool) → List Path → List (List Path) → Type 0
IsOrder need left [] = bundle_from need left ≡ None
IsOrder need left (paths ∷ later) = (bundle_from need left ≡ Some paths)
    × IsOrder need (filter (λ q. not (has paths q)) left) later

-- the paths that are left once a bundle is taken from them
abbrev pub left_without : List Path → Option (List Path) → List Path
left_without left None = left
left_without left (Some paths) = filter (λ q. not (has paths q)) left
