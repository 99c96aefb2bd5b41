-- A script in the machine: the events that each command stands for, and what is written of their replies. One
-- thing is left free: whether there is memory to keep a page that is missed. The law above: `plays_law`.
use Rattle.std.specs.Prelude.{◌≡◌, ℕ, ◌+◌, ◌-◌, Bool, true, false, List, [], ◌∷◌, ◌++◌, None, length, map}
use Rattle.std.specs.List.{fold}
use Rattle.std.specs.FinMap as fin
use Rattle.dup_names.specs.Words.{Word}
use Rattle.dup_template.specs.declared.site.Parts.{Parts}
use Rattle.dup_transcript.specs.Commands.{Command}
use Rattle.dup_model.specs.Answers.How.{MissUnkept}
use Rattle.dup_model.specs.GoodSites.{HistoriesEmbedEarlier}
use Rattle.dup_model.specs.Journal.{Limits}
use Rattle.dup_model.specs.Versions.{IsHistory}
use Rattle.dup_machine.specs.Run.{run, step}
use Rattle.dup_machine.specs.Settle.{Settles}
use Rattle.dup_machine.specs.Status.{NothingPending, status}
use Rattle.dup_machine.specs.Until.{LastTold}
use Rattle.dup_transcript.specs.Texts.{bad_feed_text, bad_line_text, not_built_text, settled_text, status_text, told_text}
use Rattle.dup_machine.specs.World.{Counts, Event, Told, World, first_world}
use Rattle.dup_machine.specs.World.Event.{Comes, Deliver, Evict, Node, Request}
use Rattle.dup_machine.specs.World.Told.{Found}
use Rattle.dup_transcript.specs.declared.command.Command.TheVariants as command

-- whether no page was left out of a cache for want of memory: a reply tells it
abbrev pub tells_kept : Told → Bool
tells_kept (Found edition page MissUnkept) = false
tells_kept _ = true

-- this event happens, the page of its reply is kept or not, as the reply tells, and this is written of it
abbrev pub Happens : Parts → Limits → World → Event → Bool → List Event → Word → Type 0
Happens site limits w event kept events out =
    (events ≡ event ∷ []) × ((reply : Told) × LastTold (step site limits w event) reply
    × (kept ≡ tells_kept reply) × (out ≡ told_text reply))

-- nothing happens, and this is written
abbrev pub IsSaid : Word → Bool → List Event → Word → Type 0
IsSaid text kept events out = (kept ≡ true) × (events ≡ []) × (out ≡ text)

-- the events that a command of this line stands for, where the machine is so and a page that is missed is kept or
-- not, and what is written of their replies. Only a request leaves it free whether a page is kept
abbrev pub StandsFor : Parts → Limits → World → ℕ → Command → Bool → List Event → Word → Type 0
StandsFor site limits w number (command.Commit commit) kept events out =
    Happens site limits w (Comes commit) kept events out
StandsFor site limits w number command.Settle kept events out =
    let new = fold (step site limits) w events in
    (kept ≡ true) × ((counts : Counts) × Settles site limits w events counts
    × (out ≡ settled_text (length new.log) (length new.log - length w.log) counts))
StandsFor site limits w number (command.Node node capacity mode) kept events out =
    Happens site limits w (Node node capacity mode) kept events out
StandsFor site limits w number (command.Deliver node) kept events out =
    Happens site limits w (Deliver node) kept events out
StandsFor site limits w number (command.Get node pass path) kept events out =
    Happens site limits w (Request node pass path kept) kept events out
StandsFor site limits w number (command.Evict node path) kept events out =
    Happens site limits w (Evict node path) kept events out
StandsFor site limits w number command.Status kept events out =
    IsSaid (status_text (status site w)) kept events out
StandsFor site limits w number (command.BadFeed why) kept events out = IsSaid (bad_feed_text why) kept events out
StandsFor site limits w number command.Blank kept events out = IsSaid [] kept events out
StandsFor site limits w number command.NotBuilt kept events out =
    IsSaid (not_built_text number) kept events out
StandsFor site limits w number command.Bad kept events out = IsSaid (bad_line_text number) kept events out

-- what may be written for commands behind these events and so many lines, where this is written last, and for
-- each command the page that it misses is kept or not
abbrev pub PlaysBy : Parts → Limits → List Event → ℕ → List Command → List Bool → Word → Word → Type 0
PlaysBy site limits before number [] [] last out = out ≡ last
PlaysBy site limits before number (command ∷ rest) (kept ∷ later) last out =
    (events : List Event)
    × ((said : Word) × ((more : Word)
    × StandsFor site limits (run site limits before) (number + 1) command kept events said
    × (out ≡ said ++ more)
    × PlaysBy site limits (before ++ events) (number + 1) rest later last more))
PlaysBy _ _ _ _ _ _ _ _ = ⊥

-- the same, whichever pages are kept
abbrev pub MachinePlays : Parts → Limits → List Event → ℕ → List Command → Word → Word → Type 0
MachinePlays site limits before number commands last out =
    (kept : List Bool) × PlaysBy site limits before number commands kept last out

-- where the machine is between two commands: no work is open, the slot of a settle is empty, and the commits
-- are a history
pub record IsReady (site : Parts) (w : World) : Type 0 where
  pub idle : w.work ≡ None
  pub slot : fin.get w.slots 0 ≡ None
  pub allowed : IsHistory site w.commits

-- so it is before the first command
abbrev pub StartsReady : Type 0
StartsReady = (site : Parts) → IsReady site first_world

-- and after each
abbrev pub CommandsLeaveReady : Type 0
CommandsLeaveReady =
    (site : Parts) (limits : Limits) (w : World) (number : ℕ) (command : Command) (kept : Bool)
    (events : List Event) (out : Word) → HistoriesEmbedEarlier site → IsReady site w →
    StandsFor site limits w number command kept events out → IsReady site (fold (step site limits) w events)

-- every page that is missed is kept
abbrev pub all_kept : List Command → List Bool
all_kept commands = map (λ command. true) commands

-- each list of commands is answered by the machine, with every page kept
abbrev pub PlaysExist : Type 0
PlaysExist = (site : Parts) (limits : Limits) (number : ℕ) (commands : List Command) (last : Word) →
    HistoriesEmbedEarlier site →
    (out : Word) × PlaysBy site limits [] number commands (all_kept commands) last out

-- with the same pages kept, there is one text
abbrev pub PlaysAreOne : Type 0
PlaysAreOne = (site : Parts) (limits : Limits) (number : ℕ) (commands : List Command) (kept : List Bool)
    (last a b : Word) → HistoriesEmbedEarlier site →
    PlaysBy site limits [] number commands kept last a → PlaysBy site limits [] number commands kept last b →
    a ≡ b

-- and the text tells which pages were kept
abbrev pub PlaysTellKept : Type 0
PlaysTellKept = (site : Parts) (limits : Limits) (number : ℕ) (commands : List Command) (kept others : List Bool)
    (last out : Word) → HistoriesEmbedEarlier site →
    PlaysBy site limits [] number commands kept last out →
    PlaysBy site limits [] number commands others last out → kept ≡ others

-- once settled, nothing is pending
abbrev pub SettlesLeaveNothing : Type 0
SettlesLeaveNothing = (site : Parts) (limits : Limits) (w : World) (events : List Event) (counts : Counts) →
    HistoriesEmbedEarlier site → IsReady site w →
    Settles site limits w events counts → NothingPending site (fold (step site limits) w events)
