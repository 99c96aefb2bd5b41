-- Which refusal of the definitions a refusal names.
use Rattle.std.specs.Prelude.{◌≡◌, ℕ, Option, Some}
use Rattle.std.specs.Option.{option_or}
use Rattle.dup_model.specs.declared.edit.Edit.{Edit}
use Rattle.dup_model.specs.Content.{Content}
use Rattle.dup_records.specs.declared.refusal.CommitRefusal.{CommitRefusal}
use Rattle.dup_records.specs.declared.refusal.CommitRefusal.TheVariants as told
use Rattle.dup_model.specs.Commits.{edit_misfit, no_room, Refusal, UnknownKind, UnknownField, NoRow, KindFull}
use Rattle.dup_model.specs.Commits.{BadBody, JournalFull, UnknownTemplate}

-- want of memory may be answered at any time, each other refusal only where it is due
abbrev pub Names : CommitRefusal → Option Refusal → Type 0
Names (told.UnknownKind n) due = due ≡ Some (UnknownKind n)
Names (told.UnknownField n) due = due ≡ Some (UnknownField n)
Names (told.NoRow n) due = due ≡ Some (NoRow n)
Names (told.KindFull n) due = due ≡ Some (KindFull n)
Names (told.JournalFull commits bytes) due = due ≡ Some (JournalFull commits bytes)
Names (told.UnknownTemplate n) due = due ≡ Some (UnknownTemplate n)
Names (told.BadBody n why) due = due ≡ Some (BadBody n why)
Names told.NoMemory due = Unit {0}

-- why the n-th change is refused
abbrev pub due : Content → ℕ → ℕ → Edit → Option Refusal
due c rows n e = option_or (edit_misfit c n e) (no_room c rows n e)
