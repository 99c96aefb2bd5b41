-- The transcript of an input: what `play`, `check` and `render` write for it, and how they end. The law
-- above: `transcripts_law`.
use Rattle.std.specs.Prelude.{◌≡◌, ◌≢◌, ℕ, Bool, true, false, List, [], ◌∷◌, ◌++◌, codes, if◌then◌else◌, nat_eq, Result, Ok, Err}
use Rattle.std.specs.Fmt.{decimal}
use Rattle.dup_names.specs.Lines.{Reading, Whole, Next, LongLine, LongInput, line}
use Rattle.dup_names.specs.Words.{Word}
use Rattle.dup_template.specs.declared.refusal.SiteTextRefusal.{SiteTextRefusal}
use Rattle.dup_template.specs.Good.{IsGood}
use Rattle.dup_template.specs.declared.site.Parts.{Parts}
use Rattle.dup_transcript.specs.BadSites.{or_cause}
use Rattle.dup_transcript.specs.Commands.{Command, Feed, line_command}
use Rattle.dup_model.specs.Commits.{Commit}
use Rattle.dup_model.specs.Content.{Content}
use Rattle.dup_model.specs.Journal.{usual_limits}
use Rattle.dup_transcript.specs.Inputs.{script, site_is_read, site_lines, site_text}
use Rattle.dup_transcript.specs.RenderedPages.{last_content, render_answers, rendered_pages}
use Rattle.dup_transcript.specs.MachinePlays.{PlaysBy}
use Rattle.dup_transcript.specs.declared.task.Task.{Task}
use Rattle.dup_transcript.specs.declared.task.Task.TheVariants.{Play, Check, Render}

-- The texts that have grammars of their own, which stand above: the good site that a site text gives, or why
-- it gives none;
-- the canonical text of a site; and what feed messages say.
pub record Grammars : Type 0 where
  pub site : Word → Result Parts SiteTextRefusal
  pub canonical : Parts → Word
  pub feed : Feed

-- the sites that texts give are good
abbrev pub GivesGoodSites : Grammars → Type 0
GivesGoodSites g = (text : Word) (site : Parts) → g.site text ≡ Ok site → IsGood site

abbrev pub site_ok : Word
site_ok = line (codes "site ok")

abbrev pub too_long_line : ℕ → Word
too_long_line number = line (codes "too long: line " ++ decimal number)

abbrev pub too_long_input : Word
too_long_input = line (codes "too long: input")

-- the status where nothing fails: 7 where a line or the input is too long
abbrev pub ending : Reading → ℕ
ending Whole = 0
ending (Next text rest) = ending rest
ending (LongLine number) = 7
ending LongInput = 7

-- the line on what is too long, where something is
abbrev pub too_long : Reading → Word
too_long Whole = []
too_long (Next text rest) = too_long rest
too_long (LongLine number) = too_long_line number
too_long LongInput = too_long_input

-- the commands of the lines that are read, each of which asks for one
abbrev pub commands : (Word → Command) → Reading → List Command
commands asks (Next text rest) = asks text ∷ commands asks rest
commands asks _ = []

-- what is written for a script behind a site text of so many lines, where just these pages are kept: what the
-- machine replies to its commands, within the usual limits, and what is too long
abbrev pub PlaysScript : (Word → Command) → Parts → ℕ → Reading → List Bool → Word → Type 0
PlaysScript asks site number input kept out =
    PlaysBy site usual_limits [] number (commands asks input) kept (too_long input) out

-- a site is played: `site ok`, and then the answers to the script
abbrev pub Plays : (Word → Command) → Parts → Reading → List Bool → ℕ → Word → Type 0
Plays asks site input kept status out =
    (status ≡ ending input)
    × ((more : Word) × (out ≡ site_ok ++ more)
    × PlaysScript asks site (site_lines input) (script input) kept more)

-- what stands behind the answers of a render: the pages of the last content, where nothing is too long
abbrev pub render_end : Content → Reading → Word
render_end c input = if nat_eq (ending input) 0 then rendered_pages c else too_long input

-- what a render writes for the lines that it reads, behind these commits and so many lines
abbrev pub rendered : (Word → Command) → Parts → List Commit → ℕ → Reading → Word
rendered asks site commits number input =
    render_answers site commits number (commands asks input)
    ++ render_end (last_content site commits (commands asks input)) input

-- what is written for the lines behind the site text, from the site without rows
abbrev pub RendersLines : (Word → Command) → Parts → ℕ → Reading → Word → Type 0
RendersLines asks site number input out = out ≡ rendered asks site [] number input

-- a site is rendered: the answers to the lines behind its text, and then each page
abbrev pub Renders : (Word → Command) → Parts → Reading → ℕ → Word → Type 0
Renders asks site input status out = (status ≡ ending input)
    × RendersLines asks site (site_lines input) (script input) out

-- a site is checked: its canonical text, whatever stands behind the site text
abbrev pub Checks : Word → ℕ → Word → Type 0
Checks canonical status out = (status ≡ 0) × (out ≡ canonical)

-- what a task makes of a good site, where just these pages are kept; only a script that is played keeps any
abbrev pub Does : Grammars → Task → Parts → Reading → List Bool → ℕ → Word → Type 0
Does g Play site input kept status out = Plays (line_command g.feed) site input kept status out
Does g Check site input kept status out = (kept ≡ []) × Checks (g.canonical site) status out
Does g Render site input kept status out = (kept ≡ []) × Renders (line_command g.feed) site input status out

-- the good site of a text, or the line that is written in its place
abbrev pub site_for : Grammars → Word → Result Parts Word
site_for g text = or_cause (g.site text)

abbrev pub DoesSite : Grammars → Task → Result Parts Word → Reading → List Bool → ℕ → Word → Type 0
DoesSite g task (Ok site) input kept status out = Does g task site input kept status out
DoesSite g task (Err why) input kept status out = (kept ≡ []) × (status ≡ 5) × (out ≡ why)

abbrev pub DoesRead : Grammars → Task → Bool → Reading → List Bool → ℕ → Word → Type 0
DoesRead g task false input kept status out = (kept ≡ []) × (status ≡ 7) × (out ≡ too_long input)
DoesRead g task true input kept status out = DoesSite g task (site_for g (site_text input)) input kept status out

-- the transcript of an input where just these pages are kept: the status, and all that is written
abbrev pub IsTranscriptBy : Grammars → Task → Reading → List Bool → ℕ → Word → Type 0
IsTranscriptBy g task input kept status out = DoesRead g task (site_is_read input) input kept status out

-- a transcript of an input, whichever pages are kept
abbrev pub IsTranscript : Grammars → Task → Reading → ℕ → Word → Type 0
IsTranscript g task input status out = (kept : List Bool) × IsTranscriptBy g task input kept status out

-- each input has a transcript
abbrev pub TranscriptsExist : Type 0
TranscriptsExist = (g : Grammars) → GivesGoodSites g → (task : Task) (input : Reading) → (status : ℕ)
    × ((out : Word) × IsTranscript g task input status out)

-- and only one where the same pages are kept
abbrev pub TranscriptsAreOne : Type 0
TranscriptsAreOne = (g : Grammars) → GivesGoodSites g →
    (task : Task) (input : Reading) (kept : List Bool) (s t : ℕ) (out other : Word) →
    IsTranscriptBy g task input kept s out → IsTranscriptBy g task input kept t other →
    (s ≡ t) × (out ≡ other)

-- which these are, what is written tells
abbrev pub TranscriptsTellKept : Type 0
TranscriptsTellKept = (g : Grammars) → GivesGoodSites g →
    (task : Task) (input : Reading) (kept others : List Bool) (s t : ℕ) (out : Word) →
    IsTranscriptBy g task input kept s out → IsTranscriptBy g task input others t out → kept ≡ others

-- but for `play` there is one
abbrev pub OtherTasksHaveOne : Type 0
OtherTasksHaveOne = (g : Grammars) (task : Task) (input : Reading) (s t : ℕ) (out other : Word) → task ≢ Play →
    IsTranscript g task input s out → IsTranscript g task input t other → (s ≡ t) × (out ≡ other)
