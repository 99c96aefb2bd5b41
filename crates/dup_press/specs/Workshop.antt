-- How a workshop is kept.
use Rattle.std.specs.Prelude.{◌≡◌, ◌≤◌, ℕ, List, length, Some}
use Rattle.dup_template.specs.declared.site.Parts.{Parts}
use Rattle.dup_model.specs.Commits.{Commit}
use Rattle.dup_model.specs.Versions.{version}
use Rattle.dup_machine.specs.Builds.{Build}
use Rattle.dup_machine.specs.Presses.{begun_version}
use Rattle.dup_press.specs.declared.workshop.Workshop.TheInside.{Inside}
use Rattle.dup_press.specs.Worked.{Worked, pages_at}

abbrev pub worked_in : Inside → Worked
worked_in w = record {
  journal = w.journal;
  target = w.build.works.target;
  work = w.build.works.work;
}

-- works are at the version of the last `begin`, and this and the target's are versions of these commits
pub record AreAt (site : Parts) (commits : List Commit) (b : Build) : Type 0 where
  pub begun : b.version ≡ begun_version b.work b.target
  pub content : b.content ≡ version site commits b.version
  pub within : b.version ≤ length commits
  pub made : (v : ℕ) → b.target ≡ Some v → v ≤ length commits

pub record IsWorkshop (w : Inside) : Type 0 where
  pub works : AreAt w.journal.site w.journal.commits w.build.works
  pub pages : w.build.pages ≡ pages_at w.journal.site w.journal.commits w.build.works.target
