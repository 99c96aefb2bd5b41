-- What a hall keeps between commands, and what a command does to it.
use Rattle.std.specs.Prelude.{◌≡◌, ℕ, List, [], ◌++◌, Option, Some, None}
use Rattle.std.specs.FinMap as fin
use Rattle.std.specs.List.{fold}
use Rattle.dup_names.specs.Words.{Word}
use Rattle.dup_template.specs.declared.site.Parts.{Parts}
use Rattle.dup_model.specs.Journal.{Limits}
use Rattle.dup_machine.specs.Press.{press_of}
use Rattle.dup_machine.specs.Run.{step}
use Rattle.dup_machine.specs.World.{Event, World}
use Rattle.dup_press.specs.Pressed.{pressed}
use Rattle.dup_transcript.specs.Commands.{Command}
use Rattle.dup_transcript.specs.Turns.{Standing, StandsAs, Turns}
use Rattle.dup_script.specs.Answers.{said_text}
use Rattle.dup_script.specs.declared.said.Said.{Said}
use Rattle.dup_hall.specs.Serving.{AllHold, standing_at}
use Rattle.dup_hall.specs.Tallies.{tallied}
use Rattle.dup_hall.specs.declared.hall.Hall.{Hall as Kept}

-- where the machine stands
abbrev pub standing : Kept → Standing
standing kept = standing_at (pressed kept.press) kept.nodes

-- the site, and the limits of the journal
abbrev pub site_of : Kept → Parts
site_of kept = kept.press.works.journal.site

abbrev pub limits_of : Kept → Limits
limits_of kept = kept.press.works.journal.limits

-- the nodes hold pages of the log
abbrev pub IsSound : Kept → Type 0
IsSound kept = AllHold kept.nodes kept.press.log

-- site and limits are the same
pub record IsSameHouse (old new : Kept) : Type 0 where
  pub site : site_of new ≡ site_of old
  pub limits : limits_of new ≡ limits_of old

-- the machine has this press, and its nodes have these caches
pub record HasCome (s : Standing) (w : World) : Type 0 where
  pub press : press_of w ≡ s.press
  pub nodes : (n : ℕ) → fin.get w.nodes n ≡ s.nodes n

-- wherever the machine stands as the first, some events lead it to the press and the caches of the second
abbrev pub Reaches : Kept → Kept → Type 0
Reaches old new = (w : World) → StandsAs (standing old) w →
    (events : List Event) × HasCome (standing new) (fold (step (site_of old) (limits_of old)) w events)

-- what is written of an answer, where there is one
abbrev pub answer_text : Option Said → Word
answer_text None = []
answer_text (Some said) = said_text said

-- what is written for a command of this line, and where the machine stands then
abbrev pub Acts : Kept → Kept → ℕ → Command → Word → Type 0
Acts old new number command text =
    Turns (site_of old) (limits_of old) (standing old) number command text (standing new)

-- the answer to a command of this line is written behind what was written, and the tally counts it
abbrev pub WritesAnswer : Kept → Kept → ℕ → Command → Word → Word → Type 0
WritesAnswer old new number command before after = (said : Option Said) × (after ≡ before ++ answer_text said)
    × Acts old new number command (answer_text said) × (new.tally ≡ tallied command said old.tally)
