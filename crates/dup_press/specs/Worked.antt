-- The journal and the works of a press: all of it but what is published. Its steps are those of the machine's press.
use Rattle.std.specs.Prelude.{◌≡◌, ℕ, List, [], Option, Some, None}
use Rattle.dup_names.specs.Words.{Path}
use Rattle.dup_names.specs.declared.object.Obj.{Obj}
use Rattle.dup_names.specs.declared.value.Look.{Look}
use Rattle.dup_template.specs.declared.site.Parts.{Parts}
use Rattle.dup_model.specs.Commits.{Commit}
use Rattle.dup_model.specs.Editions.{Bundle}
use Rattle.dup_model.specs.Pages.{page_looks}
use Rattle.dup_model.specs.Versions.{version}
use Rattle.dup_machine.specs.Presses.{Press, begun_version, build_at}
use Rattle.dup_machine.specs.World.{Told, Work}
use Rattle.dup_build.specs.Answers.{SaysPut}
use Rattle.dup_build.specs.Built.{Built}
use Rattle.dup_build.specs.declared.answers.Put.{Put}
use Rattle.dup_press.specs.Journaled.{Journaled}

-- the journal, the version of the target, and the open work
pub record Worked : Type 0 where
  pub journal : Journaled
  pub target : Option ℕ
  pub work : Option Work

-- the machine's press, where this was published
abbrev pub press_of : List Bundle → Worked → Press
press_of log w = record { commits = w.journal.commits; target = w.target; work = w.work; log = log }

-- the looks of the pages of a target's version, none without a target
abbrev pub pages_at : Parts → List Commit → Option ℕ → List (Path × Look)
pages_at site commits None = []
pages_at site commits (Some v) = page_looks (version site commits v)

-- its works and the pages of its target, as a build has them
abbrev pub built_of : Worked → Built
built_of w = record {
  works = build_at w.journal.site (begun_version w.work w.target) (press_of [] w);
  pages = pages_at w.journal.site w.journal.commits w.target;
}

-- this step of the machine's press tells this and leads here, whatever was published
abbrev pub IsStep : (Press → Told × Press) → Worked → Told → Worked → Type 0
IsStep step old told new = (log : List Bundle) → step (press_of log old) ≡ (told, press_of log new)

-- the step of a hand gives this object, if any, and leads here
abbrev pub IsHand : (Press → Option Obj × Press) → Worked → Option Obj → Worked → Type 0
IsHand step old obj new = (log : List Bundle) → step (press_of log old) ≡ (obj, press_of log new)

-- the step of a put of an expansion of o tells what the answer says, and leads here
abbrev pub IsPut : (Press → Told × Press) → Worked → Obj → Put → Worked → Type 0
IsPut step old o put new =
    (log : List Bundle) → SaysPut o put (step (press_of log old)).0 × ((step (press_of log old)).1 ≡ press_of log new)
