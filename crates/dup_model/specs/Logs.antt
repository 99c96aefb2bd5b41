-- Which logs are good.
use Rattle.std.specs.Prelude.{◌≡◌, ℕ, ◌≤◌, ◌++◌, List, Some, length, take, slice_get}
use Rattle.dup_template.specs.declared.site.Parts.{Parts}
use Rattle.dup_names.specs.Words.{Path}
use Rattle.dup_model.specs.Pages.{target}
use Rattle.dup_model.specs.Versions.{IsHistory, content}
use Rattle.dup_model.specs.Editions.{Bundle, IsConsistent, edition, history, bundle_of}
use Rattle.dup_model.specs.Bundles.{bundle}

-- b is the bundle of its version's target after this log
pub record IsNext (site : Parts) (log : List Bundle) (b : Bundle) : Type 0 where
  pub paths : List Path
  pub chosen : bundle (edition log) (target (content site (history log ++ b.commits))) ≡ Some paths
  pub is : b ≡ bundle_of (target (content site (history log ++ b.commits))) (length (history log
      ++ b.commits)) b.commits paths

pub record IsGoodLog (site : Parts) (log : List Bundle) : Type 0 where
  pub allowed : (k : ℕ) → k ≤ length log → IsHistory site (history (take k log))
  pub consistent : (k : ℕ) → k ≤ length log → IsConsistent site (history (take k log)) (edition (take k log))
  pub nexts : (k : ℕ) (b : Bundle) → slice_get log k ≡ Some b → IsNext site (take k log) b
