-- What holds of a press at every moment. The law above: `runs_law`.
use Rattle.std.specs.Prelude.{◌≡◌, ℕ, ◌≤◌, List, [], ◌++◌, take, Option, Some, None, length}
use Rattle.dup_template.specs.declared.site.Parts.{Parts}
use Rattle.dup_model.specs.Commits.{Commit}
use Rattle.dup_model.specs.Editions.{history}
use Rattle.dup_model.specs.Journal.{Limits}
use Rattle.dup_model.specs.Versions.{IsHistory}
use Rattle.dup_machine.specs.Press.{press_of}
use Rattle.dup_machine.specs.Presses.{Press, version_of}
use Rattle.dup_machine.specs.Run.{run}
use Rattle.dup_machine.specs.World.{Event, Work}

-- the version of an open work lies between these
abbrev pub IsWorkWithin : Option Work → ℕ → ℕ → Type 0
IsWorkWithin None low high = Unit {0}
IsWorkWithin (Some work) low high = (low ≤ work.version) × (work.version ≤ high)

-- the commits are a history; those of the log are the first of the target's version; the versions of the
-- target and of an open work are versions of the journal, the work's no earlier; without a target nothing is
-- published
pub record IsTimely (site : Parts) (p : Press) : Type 0 where
  pub allowed : IsHistory site p.commits
  pub covered : (rest : List Commit) × (history p.log ++ rest ≡ take (version_of p.target) p.commits)
  pub target_within : version_of p.target ≤ length p.commits
  pub work_within : IsWorkWithin p.work (version_of p.target) (length p.commits)
  pub unpublished : p.target ≡ None → p.log ≡ []

-- so it is after every list of events
abbrev pub PressesAreTimely : Type 0
PressesAreTimely = (site : Parts) (limits : Limits) (events : List Event) →
    IsTimely site (press_of (run site limits events))
