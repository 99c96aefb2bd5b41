-- A journal, as its callers see it.
use Rattle.std.specs.Prelude.{List}
use Rattle.dup_template.specs.declared.site.Parts.{Parts}
use Rattle.dup_model.specs.Commits.{Commit}
use Rattle.dup_model.specs.Journal.{Limits}

-- the commits that came to a site within limits, in order
pub record Journaled : Type 0 where
  pub site : Parts
  pub limits : Limits
  pub commits : List Commit
