-- What each version keeps: the frame, a table for each kind, and keys that rise. The law above:
-- `versions_law`.
use Rattle.std.specs.Prelude.{◌≡◌, List, [], ◌∷◌, length}
use Rattle.dup_model.specs.declared.edit.Edit.{Edit}
use Rattle.dup_model.specs.declared.edit.Edit.TheVariants.{Put, Remove, Replace}
use Rattle.dup_template.specs.Frame.{frame_of}
use Rattle.std.specs.List.{AllByRecursion}
use Rattle.std.specs.declared.cmp.Ordering.TheVariants.{Less}
use Rattle.dup_names.specs.Order.{text_cmp}
use Rattle.dup_template.specs.declared.site.Parts.{Parts}
use Rattle.dup_names.specs.Words.{Word}
use Rattle.dup_model.specs.Content.{Content, Table, IsOf}
use Rattle.dup_model.specs.Commits.{Commit}
use Rattle.dup_model.specs.Versions.{content}

-- the key comes before those of the rows
abbrev pub IsBelow : Word → Table → Type 0
IsBelow key rows = AllByRecursion (λ e. text_cmp key e.0 ≡ Less) rows

abbrev pub IsRising : Table → Type 0
IsRising [] = Unit {0}
IsRising (e ∷ es) = IsBelow e.0 es × IsRising es

abbrev pub TablesRise : Content → Type 0
TablesRise c = AllByRecursion IsRising c.tables

abbrev pub VersionsRise : Type 0
VersionsRise = (site : Parts) (commits : List Commit) → TablesRise (content site commits)

abbrev pub VersionsHaveTheFrame : Type 0
VersionsHaveTheFrame = (site : Parts) (commits : List Commit) → (content site commits).frame ≡ frame_of site

-- the bodies stay the site's where no change is of a body
abbrev pub IsOfRow : Edit → Type 0
IsOfRow (Put kind key fields) = Unit {0}
IsOfRow (Remove kind key) = Unit {0}
IsOfRow (Replace template body) = ⊥

abbrev pub AreOfRows : List Commit → Type 0
AreOfRows commits = AllByRecursion (λ commit. AllByRecursion IsOfRow commit) commits

abbrev pub VersionsAreOfTheSite : Type 0
VersionsAreOfTheSite = (site : Parts) (commits : List Commit) → AreOfRows commits →
    IsOf site (content site commits)

abbrev pub VersionsHaveTables : Type 0
VersionsHaveTables = (site : Parts) (commits : List Commit) →
    length (content site commits).tables ≡ length site.kinds
