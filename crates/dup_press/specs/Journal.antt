-- How a journal is kept.
use Rattle.std.specs.Prelude.{◌≡◌, map}
use Rattle.dup_model.specs.Versions.{content}
use Rattle.dup_records.specs.JournalSizes.{IsSizeOf, limits_of}
use Rattle.dup_press.specs.Journaled.{Journaled}
use Rattle.dup_press.specs.declared.journal.Journal.TheInside.{Inside}

abbrev pub journal_in : Inside → Journaled
journal_in j = record {
  site = j.site.value;
  limits = limits_of j.limits;
  commits = map (λ c. c.value) j.commits.items;
}

-- the content is that of the last version, and the commits are counted
pub record IsJournal (j : Inside) : Type 0 where
  pub content : j.content ≡ content (journal_in j).site (journal_in j).commits
  pub size : IsSizeOf j.size (journal_in j).commits
