-- A commit that finds the journal of a render full.
use Rattle.std.proofs.Common.{◌≡◌, refl, sym, subst, List}
use Rattle.std.specs.Prelude.{Option, Some}
use Rattle.std.specs.Option.{option_or}
use Rattle.dup_names.specs.Words.{Word}
use Rattle.dup_names.specs.declared.limits.TheConstants.{MAX_COMMITS, MAX_JOURNAL_BYTES, MAX_ROWS}
use Rattle.dup_template.specs.declared.site.Parts.{Parts}
use Rattle.dup_model.specs.Commits.{Commit, Refusal, JournalFull, refusal}
use Rattle.dup_model.specs.Journal.{Limits, journal_full, unless_refused, usual_limits}
use Rattle.dup_model.specs.Versions.{content}
use Rattle.dup_records.specs.JournalSizes.{IsSizeOf, limits_of}
use Rattle.dup_records.specs.Refusals.{Names}
use Rattle.dup_records.specs.declared.commit.Limits.{Limits as Named}
use Rattle.dup_records.specs.declared.refusal.CommitRefusal.{CommitRefusal}
use Rattle.dup_records.specs.declared.refusal.CommitRefusal.TheVariants as told
use Rattle.dup_transcript.specs.declared.command.Command.TheVariants as command
use Rattle.dup_transcript.specs.RenderedPages.{refusal_line}
use Rattle.dup_transcript.specs.Texts.{refusal_text}
use Rattle.dup_main.specs.declared.render_lines.Rendering.{Rendering}
use Rattle.dup_main.specs.Taken.{HasTaken, Takes}

pub are_usual : (l : Named) → (l.rows ≡ MAX_ROWS) × (l.commits ≡ MAX_COMMITS) × (l.bytes ≡ MAX_JOURNAL_BYTES) → limits_of l ≡ usual_limits
are_usual l is = rw (is.0, is.1, is.2) refl

-- within these limits the journal has no room for the commit
abbrev pub IsFull : Limits → Rendering → Commit → Type 0
IsFull limits old commit =
    (commits : List Commit) → IsSizeOf old.size commits
    → journal_full limits commits commit ≡ Some (JournalFull old.size.commits old.size.bytes)

-- the text says why a commit is refused
abbrev pub Says : Word → CommitRefusal → Type 0
Says text why = (due : Refusal) → Names why (Some due) → text ≡ refusal_text due

-- what is taken, and what is told, behind a commit that is refused so
abbrev pub TakesSo : Parts → List Commit → Commit → Rendering → Word → Option Refusal → Type 0
TakesSo site commits commit new text why = HasTaken site (unless_refused commits commit why) new × (text ≡ refusal_line why)

-- it is refused, and nothing is taken
pub takes_full : (limits : Limits) (old : Rendering) (commit : Commit) (text : Word) → limits ≡ usual_limits → IsFull limits old commit →
    Says text (told.JournalFull old.size.commits old.size.bytes) → Takes old old 0 (command.Commit commit) text
takes_full limits old commit text usual full says = λ site commits taken.
    let due : journal_full usual_limits commits commit ≡ Some (JournalFull old.size.commits old.size.bytes) =
    subst (λ (l : Limits). journal_full l commits commit ≡ Some (JournalFull old.size.commits old.size.bytes)) usual (full commits taken.counts) in
    subst (λ (o : Option Refusal). TakesSo site commits commit old text (option_or o (refusal (content site commits) commit usual_limits.rows)))
    (sym due) (taken, says (JournalFull old.size.commits old.size.bytes) refl)
