-- The run of a script: the events that its commands stand for, and what holds of them. The law above:
-- `runs_of_scripts_law`.
use Rattle.std.specs.Prelude.{◌≡◌, ℕ, ◌+◌, Bool, true, List, [], ◌∷◌, ◌++◌, Ok}
use Rattle.dup_names.specs.Lines.{Reading}
use Rattle.dup_names.specs.Words.{Word}
use Rattle.dup_template.specs.declared.site.Parts.{Parts}
use Rattle.dup_model.specs.Journal.{Limits, usual_limits}
use Rattle.dup_machine.specs.World.{Event, World}
use Rattle.dup_machine.specs.Run.{run}
use Rattle.dup_machine.specs.Status.{NothingPending}
use Rattle.dup_machine.specs.Headline.{HeadlineAt}
use Rattle.dup_transcript.specs.declared.command.Command.TheVariants as command
use Rattle.dup_transcript.specs.declared.task.Task.TheVariants.{Play}
use Rattle.dup_transcript.specs.Commands.{Command, line_command}
use Rattle.dup_transcript.specs.Inputs.{script, site_is_read, site_lines, site_text}
use Rattle.dup_transcript.specs.MachinePlays.{StandsFor}
use Rattle.dup_transcript.specs.Transcript.{GivesGoodSites, Grammars, IsTranscript, commands, site_for, site_ok, too_long}

-- behind a settle nothing is pending
abbrev pub LeavesNothing : Parts → World → Command → Type 0
LeavesNothing site w command.Settle = NothingPending site w
LeavesNothing site w _ = Unit {0}

-- `all` are these events and those that the commands stand for. What is written is what the machine replies
-- to them, and then what is written last; behind each settle nothing is pending
abbrev pub PlaysEvents : Parts → Limits → List Event → ℕ → List Command → Word → Word → List Event → Type 0
PlaysEvents site limits before number [] last out all = (out ≡ last) × (all ≡ before)
PlaysEvents site limits before number (command ∷ rest) last out all =
    (kept : Bool) × ((events : List Event) × ((said : Word) × ((more : Word)
    × StandsFor site limits (run site limits before) (number + 1) command kept events said
    × (out ≡ said ++ more)
    × LeavesNothing site (run site limits (before ++ events)) command
    × PlaysEvents site limits (before ++ events) (number + 1) rest last more all)))

-- what is written for a script behind a site text of so many lines is what the machine replies to some
-- events, and of their run the headline holds
abbrev pub IsRun : (Word → Command) → Parts → ℕ → Reading → Word → Type 0
IsRun asks site number input out =
    (events : List Event)
    × PlaysEvents site usual_limits [] number (commands asks input) (too_long input) out events
    × HeadlineAt site usual_limits events

-- where the site text of an input is read whole and its site is played, `site ok` is written, and then such a
-- run
abbrev pub HasRun : Grammars → Reading → Word → Type 0
HasRun g input out = (site : Parts) → site_is_read input ≡ true →
    site_for g (site_text input) ≡ Ok site →
    (more : Word) × (out ≡ site_ok ++ more) × IsRun (line_command g.feed) site (site_lines input) (script input) more

-- so it is with each transcript of `play`
abbrev pub TranscriptsAreRuns : Type 0
TranscriptsAreRuns = (g : Grammars) → GivesGoodSites g → (input : Reading) (status : ℕ) (out : Word) →
    IsTranscript g Play input status out → HasRun g input out
