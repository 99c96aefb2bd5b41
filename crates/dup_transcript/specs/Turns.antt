-- Where the machine stands between the commands of a script: its press, and the caches of its nodes.
use Rattle.std.specs.Prelude.{◌≡◌, ℕ, Bool, List, [], Option, None}
use Rattle.std.specs.List.{fold}
use Rattle.std.specs.FinMap as fin
use Rattle.dup_names.specs.Lines.{Reading}
use Rattle.dup_names.specs.Words.{Word}
use Rattle.dup_template.specs.declared.site.Parts.{Parts}
use Rattle.dup_model.specs.Caches.{Cache}
use Rattle.dup_model.specs.Journal.{Limits, usual_limits}
use Rattle.dup_machine.specs.Press.{press_of}
use Rattle.dup_machine.specs.Presses.{Press}
use Rattle.dup_machine.specs.Run.{run, step}
use Rattle.dup_machine.specs.World.{Event, World}
use Rattle.dup_transcript.specs.Commands.{Command}
use Rattle.dup_transcript.specs.MachinePlays.{MachinePlays, StandsFor}
use Rattle.dup_transcript.specs.Transcript.{commands, too_long}

-- a press, and the cache of each node that is there, by its number
pub record Standing : Type 0 where
  pub press : Press
  pub nodes : ℕ → Option Cache

abbrev pub first_standing : Standing
first_standing = record {
  press = record { commits = []; target = None; work = None; log = [] };
  nodes = λ n. None;
}

-- the machine stands so: its press is this one, the slot of a settle is empty, and its nodes have these caches
pub record StandsAs (s : Standing) (w : World) : Type 0 where
  pub press : press_of w ≡ s.press
  pub slot : fin.get w.slots 0 ≡ None
  pub nodes : (n : ℕ) → fin.get w.nodes n ≡ s.nodes n

-- wherever the machine stands as the first, this may be written for the command of this line, and it stands as
-- the second then
abbrev pub Turns : Parts → Limits → Standing → ℕ → Command → Word → Standing → Type 0
Turns site limits old number command out new =
    (w : World) → StandsAs old w → (kept : Bool) × (events : List Event)
    × StandsFor site limits w number command kept events out × StandsAs new (fold (step site limits) w events)

-- wherever the machine stands so, this may be written for commands behind so many lines, where this is written
-- last
abbrev pub PlaysFrom : Parts → Limits → Standing → ℕ → List Command → Word → Word → Type 0
PlaysFrom site limits s number commands last out =
    (before : List Event) → StandsAs s (run site limits before)
    → MachinePlays site limits before number commands last out

-- and for a script, within the usual limits
abbrev pub Writes : (Word → Command) → Parts → Standing → ℕ → Reading → Word → Type 0
Writes asks site s number input out =
    PlaysFrom site usual_limits s number (commands asks input) (too_long input) out
