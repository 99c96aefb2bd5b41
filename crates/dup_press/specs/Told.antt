-- What the calls of a press answer, in the machine's words.
use Rattle.std.specs.Prelude.{◌≡◌, ⊤, ◌-◌, length}
use Rattle.std.specs.FinMap as fin
use Rattle.std.specs.List.{fold}
use Rattle.std.specs.Prelude.{List, None}
use Rattle.dup_model.specs.Journal.{Limits}
use Rattle.dup_machine.specs.Press as world
use Rattle.dup_machine.specs.Run.{step}
use Rattle.dup_machine.specs.Settle.{Settles}
use Rattle.dup_machine.specs.World.{Counts, Event, World}
use Rattle.dup_machine.specs.World as machine
use Rattle.dup_machine.specs.Status.{status}
use Rattle.dup_press.specs.Pressed.{Pressed, pressed}
use Rattle.dup_press.specs.declared.answers.Published.{Published}
use Rattle.dup_press.specs.declared.answers.Published.TheVariants as published
use Rattle.dup_press.specs.declared.answers.Status.{Status}
use Rattle.dup_press.specs.declared.answers.Summary.{Summary}

abbrev pub published_told : {N : Type 0} → Published N → machine.Told
published_told published.Nothing = machine.Told.NothingChanged
published_told (published.Bundle number version puts drops notice) = machine.Told.Published number version puts drops

-- P holds of the notice of a bundle
abbrev pub ForNotice : {N : Type 0} → Published N → (N → Type 0) → Type 0
ForNotice published.Nothing P = ⊤
ForNotice (published.Bundle number version puts drops notice) P = P notice

-- in each world where the machine's press is so, this is its status
abbrev pub IsStatus : Pressed → Status → Type 0
IsStatus p s = (w : World) → world.press_of w ≡ pressed p →
    status p.works.journal.site w ≡ record {
      version = s.version;
      work = s.work;
      target = s.target;
      edition = s.edition;
      pending = s.pending;
    }

-- these counts, the number of the newest edition, and how many bundles went out
abbrev pub summary_of : Pressed → Counts → Pressed → Summary
summary_of old counts new = record {
  version = counts.version;
  edition = length new.log;
  bundles = length new.log - length old.log;
  expanded = counts.expanded;
  joined = counts.joined;
  kept = counts.kept;
}

-- in each world where the machine's press is so and slot 0 is empty, these are the events of a settle, what it
-- counts, and how the press stands then
pub record HasSettled (old : Pressed) (summary : Summary) (new : Pressed) (limits : Limits) (w : World) : Type 0 where
  pub events : List Event
  pub counts : Counts
  pub settles : Settles old.works.journal.site limits w events counts
  pub says : summary ≡ summary_of old counts new
  pub press : world.press_of (fold (step old.works.journal.site limits) w events) ≡ pressed new

abbrev pub IsSettled : Pressed → Summary → Pressed → Type 0
IsSettled old summary new = (limits : Limits) (w : World) → world.press_of w ≡ pressed old →
    fin.get w.slots 0 ≡ None → HasSettled old summary new limits w
