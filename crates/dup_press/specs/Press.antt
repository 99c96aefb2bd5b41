-- How a press is kept.
use Rattle.std.specs.Prelude.{◌≡◌, ℕ, List, Option, Some, drop, length, take}
use Rattle.dup_names.specs.Words.{Path}
use Rattle.dup_template.specs.declared.site.Parts.{Parts}
use Rattle.dup_model.specs.Commits.{Commit}
use Rattle.dup_model.specs.Editions.{Bundle, bundle_of, history}
use Rattle.dup_model.specs.Logs.{IsGoodLog}
use Rattle.dup_machine.specs.Presses.{target_by, version_of}
use Rattle.dup_machine.specs.Timely.{IsTimely}
use Rattle.dup_edition.specs.Logged.{Logged}
use Rattle.dup_bundle.specs.Between.{bundle, changed_paths}
use Rattle.dup_bundle.specs.Schedule.{IsSchedule}
use Rattle.dup_bundle.specs.Targets.{Aim}
use Rattle.dup_press.specs.Pressed.{Pressed}
use Rattle.dup_press.specs.Worked.{Worked, press_of}

-- the target of this version, the empty one without
abbrev pub aim_at : Parts → List Commit → Option ℕ → Aim
aim_at site commits target = record { version = version_of target; pages = target_by site commits target }

abbrev pub aim : Worked → Aim
aim w = aim_at w.journal.site w.journal.commits w.target

-- the edition that a log makes
abbrev pub logged : Worked → List Bundle → Logged
logged w log = record { site = w.journal.site; log = log }

-- the outlet admits each good log
abbrev pub AdmitsGood : Parts → (List Bundle → Type 0) → Type 0
AdmitsGood site admits = (log : List Bundle) → IsGoodLog site log → admits log

-- the changed paths and the bundles are those between the edition and the target, so many commits are
-- published, and the log is good
pub record IsPress (may : List Bundle → Type 0) (w : Worked) (log : List Bundle) (count : ℕ) (paths : List Path)
    (order : List (List Path)) : Type 0 where
  pub changed : paths ≡ changed_paths (logged w log) (aim w)
  pub bundles : IsSchedule (logged w log) (aim w) order
  pub published : count ≡ length (history log)
  pub good : IsGoodLog w.journal.site log
  pub timely : IsTimely w.journal.site (press_of log w)
  pub admits : AdmitsGood w.journal.site may

-- the paths that are published next, if any
abbrev pub due_paths : Pressed → Option (List Path)
due_paths p = bundle (logged p.works p.log) (aim p.works)

-- the record of these paths as the target has them, with the commits since the last record
abbrev pub due_record : Pressed → List Path → Bundle
due_record p paths = bundle_of (aim p.works).pages (aim p.works).version
    (drop (length (history p.log)) (take (aim p.works).version p.works.journal.commits)) paths

-- this record is published next
pub record IsDue (p : Pressed) (b : Bundle) : Type 0 where
  pub paths : List Path
  pub chosen : due_paths p ≡ Some paths
  pub is : b ≡ due_record p paths
