-- What a press tells of its state, and when nothing is pending. The law above: `status_law`.
use Rattle.std.specs.Prelude.{◌≡◌, ◌↔◌, ◌==◌, ℕ, Bool, false, not, ◌||◌, Option, Some, None, is_some, length}
use Rattle.std.specs.Option.{option_map}
use Rattle.dup_names.specs.Words.{Path}
use Rattle.dup_template.specs.declared.site.Parts.{Parts}
use Rattle.dup_model.specs.Versions.{content}
use Rattle.dup_model.specs.Pages.{target}
use Rattle.dup_model.specs.Needs.{changed}
use Rattle.dup_model.specs.Editions.{edition, looks, target_looks}
use Rattle.dup_model.specs.Bundles.{bundle}
use Rattle.dup_machine.specs.World.{World}
use Rattle.dup_machine.specs.Press.{target_of}

-- no work is open, the target is of the last version, and no path is changed
pub record NothingPending (site : Parts) (w : World) : Type 0 where
  pub idle : w.work ≡ None
  pub made : w.target ≡ Some (length w.commits)
  pub published : (p : Path) →
      changed (looks (edition w.log)) (target_looks (target (content site w.commits))) p ≡ false

abbrev pub is_of : ℕ → Option ℕ → Bool
is_of version None = false
is_of version (Some v) = v == version

-- a work is open, or no target was made of the last version, or there is a bundle to publish
abbrev pub is_pending : Parts → World → Bool
is_pending site w = is_some w.work || not (is_of (length w.commits) w.target)
    || is_some (bundle (edition w.log) (target_of site w w.target))

-- the last version, those of the work and the target, the number of the newest edition, and whether something
-- is pending
pub record Status : Type 0 where
  pub version : ℕ
  pub work : Option ℕ
  pub target : Option ℕ
  pub edition : ℕ
  pub pending : Bool

abbrev pub status : Parts → World → Status
status site w = record {
  version = length w.commits;
  work = option_map (λ work. work.version) w.work;
  target = w.target;
  edition = length w.log;
  pending = is_pending site w;
}

-- the status says that nothing is pending exactly where nothing is
abbrev pub PendingIsTold : Type 0
PendingIsTold = (site : Parts) (w : World) → (is_pending site w ≡ false) ↔ NothingPending site w
