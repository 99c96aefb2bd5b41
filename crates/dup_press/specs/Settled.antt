-- What a settle comes to.
use Rattle.std.specs.Prelude.{◌≡◌, ◌==◌, ℕ, Option, Some, None, length, if◌then◌else◌}
use Rattle.dup_names.specs.Objects.{is_in}
use Rattle.dup_names.specs.Words.{Path}
use Rattle.dup_model.specs.Content.{Content}
use Rattle.dup_model.specs.Editions.{edition, looks, target_looks}
use Rattle.dup_model.specs.Pages.{live, target}
use Rattle.dup_model.specs.Touched.{expanded, without}
use Rattle.dup_model.specs.Versions.{content, target_content, version}
use Rattle.dup_machine.specs.Settle.{counts_of}
use Rattle.dup_machine.specs.Works.{moved}
use Rattle.dup_machine.specs.World.{Counts, Work}
use Rattle.dup_press.specs.Pressed.{Pressed}

-- the content of the last version, and that of the target, if there is one
abbrev pub last_content : Pressed → Content
last_content p = content p.works.journal.site p.works.journal.commits

abbrev pub made_content : Pressed → Option Content
made_content p = target_content p.works.journal.site p.works.journal.commits p.works.target

-- an open work, moved to the last version where it is at an earlier one
abbrev pub at_last : Pressed → Work → Work
at_last p work =
    let commits = p.works.journal.commits in
    if work.version == length commits then work
    else moved (version p.works.journal.site commits work.version) (length commits) (last_content p) work

-- how many objects are to be expanded: those that the commits since the target touched, or the live ones of
-- which the open work has no skeleton
abbrev pub left_by : Pressed → Option Work → ℕ
left_by p None = length (expanded (made_content p) (last_content p))
left_by p (Some work) = length (without (is_in (at_last p work).done) (live (last_content p)))

abbrev pub left_to_expand : Pressed → ℕ
left_to_expand p = left_by p p.works.work

-- where no work is open: what is expanded and joined on the way from the target to the last version, and the
-- other live objects
abbrev pub counts_to_last : Pressed → Counts
counts_to_last p = counts_of (made_content p) (last_content p) (length p.works.journal.commits)

-- no commit came, no work is open, the target is of the last version, and the newest edition has its looks
pub record PublishesLast (old new : Pressed) : Type 0 where
  pub commits : new.works.journal.commits ≡ old.works.journal.commits
  pub idle : new.works.work ≡ None
  pub made : new.works.target ≡ Some (length old.works.journal.commits)
  pub shown : (path : Path) → looks (edition new.log) path ≡ target_looks (target (last_content old)) path
