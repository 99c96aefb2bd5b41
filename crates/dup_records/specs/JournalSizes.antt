-- How much a journal holds, as it is counted.
use Rattle.std.specs.Prelude.{◌≡◌, List, length}
use Rattle.dup_model.specs.Commits.{Commit}
use Rattle.dup_model.specs.Journal.{Limits, journal_bytes}
use Rattle.dup_records.specs.declared.commit.Limits.{Limits as Named}
use Rattle.dup_records.specs.declared.journal.JournalSize.{JournalSize}

-- the limits that are named
abbrev pub limits_of : Named → Limits
limits_of l = record { rows = l.rows; commits = l.commits; bytes = l.bytes }

-- so many are these commits, and of so many bytes
pub record IsSizeOf (size : JournalSize) (commits : List Commit) : Type 0 where
  pub number : size.commits ≡ length commits
  pub volume : size.bytes ≡ journal_bytes commits
