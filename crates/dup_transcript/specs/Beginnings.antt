-- Where a run breaks off before its end: what is written for the first lines of an input. The law above:
-- `beginnings_law`.
use Rattle.std.specs.Prelude.{◌≡◌, ◌⊎◌, ℕ, zero, suc, Bool, true, false, [], ◌++◌, take, if◌then◌else◌, Result, Ok, Err}
use Rattle.std.specs.List.{flat_map}
use Rattle.dup_names.specs.Lines.{Reading, Whole, Next}
use Rattle.dup_names.specs.Words.{Word}
use Rattle.dup_template.specs.declared.site.Parts.{Parts}
use Rattle.dup_model.specs.Content.{Content}
use Rattle.dup_model.specs.Journal.{usual_limits}
use Rattle.dup_model.specs.Pages.{pages}
use Rattle.dup_transcript.specs.Commands.{line_command}
use Rattle.dup_transcript.specs.Inputs.{is_end, script, site_is_read, site_lines, site_text}
use Rattle.dup_transcript.specs.MachinePlays.{MachinePlays}
use Rattle.dup_transcript.specs.RenderedPages.{last_content, render_answers, rendered_page}
use Rattle.dup_transcript.specs.Transcript.{GivesGoodSites, Grammars, IsTranscript, commands, ending, site_for, site_ok}
use Rattle.dup_transcript.specs.declared.task.Task.{Task}
use Rattle.dup_transcript.specs.declared.task.Task.TheVariants.{Play, Check, Render}

-- the first lines of a reading
abbrev pub first_lines : ℕ → Reading → Reading
first_lines zero input = Whole
first_lines (suc n) (Next text rest) = Next text (first_lines n rest)
first_lines (suc n) _ = Whole

-- what is read behind them
abbrev pub behind_lines : ℕ → Reading → Reading
behind_lines zero input = input
behind_lines (suc n) (Next text rest) = behind_lines n rest
behind_lines (suc n) input = input

-- whether a line ends the site text
abbrev pub has_end : Reading → Bool
has_end (Next text rest) = if is_end text then true else has_end rest
has_end _ = false

-- what a task writes for a good site and the lines behind its text, while more may come
abbrev pub BeginsTask : Grammars → Task → Parts → Reading → Word → Type 0
BeginsTask g Play site lines out = (more : Word) × (out ≡ site_ok ++ more)
    × MachinePlays site usual_limits [] (site_lines lines) (commands (line_command g.feed) (script lines)) [] more
BeginsTask g Check site lines out = out ≡ []
BeginsTask g Render site lines out =
    out ≡ render_answers site [] (site_lines lines) (commands (line_command g.feed) (script lines))

-- a text without a good site begins nothing: its line ends the run
abbrev pub BeginsSite : Grammars → Task → Result Parts Word → Reading → Word → Type 0
BeginsSite g task (Ok site) lines out = BeginsTask g task site lines out
BeginsSite g task (Err why) lines out = ⊥

-- before a line ends the site text nothing is written
abbrev pub BeginsRead : Grammars → Task → Bool → Reading → Word → Type 0
BeginsRead g task false lines out = out ≡ []
BeginsRead g task true lines out = BeginsSite g task (site_for g (site_text lines)) lines out

-- the output for these lines, while more may come
abbrev pub Begins : Grammars → Task → Reading → Word → Type 0
Begins g task lines out = BeginsRead g task (has_end lines) lines out

-- the output for some first lines of an input
abbrev pub BeginsSome : Grammars → Task → Reading → Word → Type 0
BeginsSome g task input out = (n : ℕ) × Begins g task (first_lines n input) out

-- all answers of a render, and some first pages of the last content
abbrev pub RendersSome : Grammars → Reading → Word → Type 0
RendersSome g input out = (site : Parts) × (n : ℕ)
    × (site_is_read input ≡ true) × (site_for g (site_text input) ≡ Ok site) × (ending input ≡ 0)
    × (let asked = commands (line_command g.feed) (script input) in
    let c : Content = last_content site [] asked in
    out ≡ render_answers site [] (site_lines input) asked ++ flat_map (rendered_page c) (take n (pages c)))

-- where a run breaks off, nothing is written, or the output for some first lines, or, of a render, the pages
-- up to one of them
abbrev pub BreaksOff : Grammars → Task → Reading → Word → Type 0
BreaksOff g task input out =
    (out ≡ []) ⊎ BeginsSome g task input out ⊎ ((task ≡ Render) × RendersSome g input out)

-- what is written for the first lines of an input is the front of a transcript of all of it
abbrev pub BeginningsGoOn : Type 0
BeginningsGoOn = (g : Grammars) → GivesGoodSites g → (task : Task) (input : Reading) (out : Word) →
    BeginsSome g task input out → (status : ℕ) × (more : Word) × IsTranscript g task input status (out ++ more)
