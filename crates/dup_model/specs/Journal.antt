-- The limits of a journal and of a kind's rows, why a commit is refused, and what joins the journal.
use Rattle.dup_names.specs.declared.limits.TheConstants.{MAX_COMMITS, MAX_JOURNAL_BYTES, MAX_ROWS}
use Rattle.std.specs.Prelude.{ℕ, ◌+◌, ◌||◌, not, nat_lt, List, [], ◌∷◌, ◌++◌, length, Option, Some, None, if◌then◌else◌}
use Rattle.std.specs.List.{sum_by}
use Rattle.std.specs.Option.{option_or}
use Rattle.dup_template.specs.declared.site.Parts.{Parts}
use Rattle.dup_model.specs.declared.edit.Edit.{Edit}
use Rattle.dup_model.specs.declared.edit.Edit.TheVariants.{Put, Remove, Replace}
use Rattle.dup_template.specs.BodyLines.{body_text}
use Rattle.dup_model.specs.Commits.{Commit, Refusal, JournalFull, refusal}
use Rattle.dup_model.specs.Versions.{content}

-- the rows of a kind, the commits of a journal, and its bytes
pub record Limits : Type 0 where
  pub rows : ℕ
  pub commits : ℕ
  pub bytes : ℕ

-- the limits where none are named
abbrev pub usual_limits : Limits
usual_limits = record { rows = MAX_ROWS; commits = MAX_COMMITS; bytes = MAX_JOURNAL_BYTES }

-- the bytes of a change: of its kind, key, field names and texts, or of its template and the body's lines
abbrev pub edit_bytes : Edit → ℕ
edit_bytes (Put kind key fields) = length kind + length key + sum_by (λ f. length f.0 + length f.1) fields
edit_bytes (Remove kind key) = length kind + length key
edit_bytes (Replace template body) = length template + sum_by length (body_text body)

abbrev pub commit_bytes : Commit → ℕ
commit_bytes commit = sum_by edit_bytes commit

abbrev pub journal_bytes : List Commit → ℕ
journal_bytes commits = sum_by commit_bytes commits

-- the journal has its commits, or this one would take it past its bytes
abbrev pub journal_full : Limits → List Commit → Commit → Option Refusal
journal_full limits commits commit =
    if not (nat_lt (length commits) limits.commits)
    || nat_lt limits.bytes (journal_bytes commits + commit_bytes commit)
    then Some (JournalFull (length commits) (journal_bytes commits)) else None

-- the journal is looked at first
abbrev pub commit_refusal : Parts → Limits → List Commit → Commit → Option Refusal
commit_refusal site limits commits commit =
    option_or (journal_full limits commits commit) (refusal (content site commits) commit limits.rows)

-- the commits once another came: one that is refused doesn't join them
abbrev pub unless_refused : List Commit → Commit → Option Refusal → List Commit
unless_refused commits commit None = commits ++ commit ∷ []
unless_refused commits commit (Some why) = commits

-- why a commit is refused behind these commits, with the usual room for rows
abbrev pub refused_behind : Parts → List Commit → Commit → Option Refusal
refused_behind site commits commit = refusal (content site commits) commit usual_limits.rows

-- the commits once another came
abbrev pub with_commit : Parts → List Commit → Commit → List Commit
with_commit site commits commit = unless_refused commits commit (refused_behind site commits commit)
