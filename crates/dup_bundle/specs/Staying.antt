-- What publishing paths as a target has them leaves as it was. The law above: `schedule_law`.
use Rattle.std.specs.Prelude.{◌≡◌, false, List, IsTrue}
use Rattle.dup_names.specs.Words.{Path}
use Rattle.dup_model.specs.Finest.{IsFinest}
use Rattle.dup_model.specs.Needs.{Looks, Paths, IsSound, mixed, needs}
use Rattle.dup_edition.specs.Logged.{Logged}
use Rattle.dup_bundle.specs.Between.{changed_paths, is_needed}
use Rattle.dup_bundle.specs.Schedule.{IsOrder, IsSchedule}
use Rattle.dup_bundle.specs.Targets.{Aim}

-- what isn't published is needed as before
abbrev pub NeedsStay : Type 0
NeedsStay = (e t : Looks) (s : Paths) (p q : Path) → s q ≡ false →
    needs (mixed s e t) t p q ≡ needs e t p q

-- a finest set of which nothing is published stays one
abbrev pub FinestStay : Type 0
FinestStay = (e t : Looks) (s r : Paths) → IsSound t → IsFinest e t r →
    ((p : Path) → IsTrue (r p) → s p ≡ false) → IsFinest (mixed s e t) t r

-- the bundles over the changed paths, as these need each other at first, are those that are published
abbrev pub OrderIsSchedule : Type 0
OrderIsSchedule = (e : Logged) (t : Aim) (bundles : List (List Path)) →
    IsOrder (is_needed e t) (changed_paths e t) bundles → IsSchedule e t bundles
