-- Histories of commits, and the versions that they make. The law above: `versions_law`.
use Rattle.std.specs.Prelude.{◌≡◌, ℕ, List, take, Option, Some, None, slice_get}
use Rattle.std.specs.List.{fold}
use Rattle.std.specs.Option.{option_map}
use Rattle.dup_template.specs.declared.site.Parts.{Parts}
use Rattle.dup_model.specs.Content.{Content, start}
use Rattle.dup_model.specs.Commits.{Commit, after, misfit}

-- the content after all these commits
abbrev pub content : Parts → List Commit → Content
content site commits = fold after (start site) commits

abbrev pub version : Parts → List Commit → ℕ → Content
version site commits i = content site (take i commits)

-- the content of a target's version, if there is one
abbrev pub target_content : Parts → List Commit → Option ℕ → Option Content
target_content site commits target = option_map (version site commits) target

-- each commit fits the content before it
pub record IsHistory (site : Parts) (commits : List Commit) : Type 0 where
  pub fits : (k : ℕ) (commit : Commit) → slice_get commits k ≡ Some commit →
      misfit (version site commits k) commit ≡ None
