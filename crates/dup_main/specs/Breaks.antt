-- What stands written where a run breaks off: where a read or a write fails, or memory runs out.
use Rattle.std.specs.Prelude.{◌≡◌, ◌≢◌, ◌⊎◌, ℕ, true, false, [], ◌++◌, codes, take, Option, Some, None, Ok}
use Rattle.std.specs.Io.KnownBytes.{Appends}
use Rattle.std.specs.List.{flat_map}
use Rattle.dup_io.specs.Causes.{AppendsPrefix}
use Rattle.dup_io.specs.Readings.{GoesOnWith}
use Rattle.dup_names.specs.Lines.{Reading, line, reading}
use Rattle.dup_names.specs.Words.{Word}
use Rattle.dup_template.specs.declared.site.Parts.{Parts}
use Rattle.dup_model.specs.Content.{Content}
use Rattle.dup_model.specs.Journal.{usual_limits}
use Rattle.dup_model.specs.Pages.{pages}
use Rattle.dup_script.specs.Commands.{command_of}
use Rattle.dup_transcript.specs.Beginnings.{Begins, BeginsSome, BreaksOff, behind_lines, first_lines, has_end}
use Rattle.dup_transcript.specs.RenderedPages.{last_content, render_answers, rendered_page, rendered_pages}
use Rattle.dup_transcript.specs.Transcript.{IsTranscript, commands, ending, site_for}
use Rattle.dup_transcript.specs.Inputs.{site_is_read, site_text}
use Rattle.dup_transcript.specs.Turns.{PlaysFrom, first_standing}
use Rattle.dup_transcript.specs.declared.task.Task.{Task}
use Rattle.dup_transcript.specs.declared.task.Task.TheVariants.{Check}
use Rattle.dup_main.specs.Stops.{stop_text}
use Rattle.dup_main.specs.Transcript.{grammars, usage}
use Rattle.dup_main.specs.declared.stop.Stop.{Stop}
use Rattle.dup_main.specs.declared.stop.Stop.TheVariants.{ReadFault, WriteFault}

-- the line on a read that failed
abbrev pub read_fault : Word
read_fault = line (codes "read fault")

-- so many lines of the reading were read whole, and a part of one more; these known bytes are left
abbrev pub StopsBehind : ℕ → Reading → Option Word → Type 0
StopsBehind n input None = ⊥
StopsBehind n input (Some left) = GoesOnWith (behind_lines n input) left

-- the output for the whole lines that were read before a read failed
abbrev pub StopsReading : Task → Reading → Option Word → Word → Type 0
StopsReading task input left out = (n : ℕ) × StopsBehind n input left × Begins grammars task (first_lines n input) out

-- the output for some first lines, or for all
abbrev pub WritesSome : Task → Reading → Word → Type 0
WritesSome task input out =
    BeginsSome grammars task input out ⊎ ((status : ℕ) × IsTranscript grammars task input status out)

-- what a run has written where it stops, by the cause: before a fault of reading the output for the lines that
-- were read; at a fault of writing a part of the output; else the output for some first lines
abbrev pub Breaks : Task → Stop → Option Word → Option Word → Option Word → Option Word → Type 0
Breaks task stop None left old new = Unit {0}
Breaks task ReadFault (Some input) left old new =
    (out : Word) × StopsReading task (reading 0 0 input) left out × Appends old new out
Breaks task WriteFault (Some input) left old new =
    (out : Word) × WritesSome task (reading 0 0 input) out × AppendsPrefix old new out
Breaks task _ (Some input) left old new =
    (out : Word) × BreaksOff grammars task (reading 0 0 input) out × Appends old new out

-- within a site text nothing is written: where a read fails no line has ended the text yet
abbrev pub BreaksSite : Stop → Option Reading → Option Word → Type 0
BreaksSite ReadFault (Some all) left = (n : ℕ) × StopsBehind n all left × (has_end (first_lines n all) ≡ false)
BreaksSite WriteFault (Some all) left = ⊥
BreaksSite _ _ left = Unit {0}

-- a line ends the site text
abbrev pub EndsSite : Option Reading → Type 0
EndsSite None = Unit {0}
EndsSite (Some all) = has_end all ≡ true

-- where the pages of a content are written: up to one of them, or a part of them all
abbrev pub BreaksPages : Stop → Content → Option Word → Option Word → Type 0
BreaksPages WriteFault c old new = AppendsPrefix old new (rendered_pages c)
BreaksPages _ c old new = (n : ℕ) × Appends old new (flat_map (rendered_page c) (take n (pages c)))

-- the output for some first lines behind a site text
abbrev pub BeginsLines : (Reading → Word → Type 0) → Reading → Word → Type 0
BeginsLines begins all out = (n : ℕ) × begins (first_lines n all) out

-- behind a site text, where `begins` tells the output for lines, `some` another output at which memory may run
-- out, and `whole` the whole output
abbrev pub BreaksScript : Stop → (Reading → Word → Type 0) → (Reading → Word → Type 0) → (Reading → Word → Type 0)
    → Option Reading → Option Word → Option Word → Option Word → Type 0
BreaksScript stop begins some whole None left old new = Unit {0}
BreaksScript ReadFault begins some whole (Some all) left old new =
    (n : ℕ) × (out : Word) × StopsBehind n all left × begins (first_lines n all) out × Appends old new out
BreaksScript WriteFault begins some whole (Some all) left old new =
    (out : Word) × (BeginsLines begins all out ⊎ whole all out) × AppendsPrefix old new out
BreaksScript _ begins some whole (Some all) left old new =
    (out : Word) × (BeginsLines begins all out ⊎ some all out) × Appends old new out

-- what a script writes for lines
abbrev pub PlayBegins : Parts → ℕ → Reading → Word → Type 0
PlayBegins site number lines out = PlaysFrom site usual_limits first_standing number (commands command_of lines) [] out

-- what a render writes for lines
abbrev pub RenderBegins : Parts → ℕ → Reading → Word → Type 0
RenderBegins site number lines out = out ≡ render_answers site [] number (commands command_of lines)

-- all that a render writes for lines, and some first pages
abbrev pub RenderBreaks : Parts → ℕ → Reading → Word → Type 0
RenderBreaks site number all out = (n : ℕ) × (ending all ≡ 0)
    × (let c : Content = last_content site [] (commands command_of all) in
    out ≡ render_answers site [] number (commands command_of all) ++ flat_map (rendered_page c) (take n (pages c)))

-- nothing else
abbrev pub Nothing : Reading → Word → Type 0
Nothing all out = ⊥

-- status 3: the output for the whole lines that were read before, and then the line on the fault
abbrev pub WritesReadFault : Task → Option Word → Option Word → Option Word → Option Word → Type 0
WritesReadFault task None left old new = Unit {0}
WritesReadFault task (Some input) left old new =
    (out : Word) × StopsReading task (reading 0 0 input) left out × Appends old new (out ++ read_fault)

-- status 6: the output for some first lines, or nothing
abbrev pub WritesBroken : Task → Option Word → Option Word → Option Word → Type 0
WritesBroken task None old new = Unit {0}
WritesBroken task (Some input) old new =
    (out : Word) × BreaksOff grammars task (reading 0 0 input) out × Appends old new out

-- status 4: a part of a transcript of the input, or of what stands written at status 3
abbrev pub WritesPart : Task → Option Word → Option Word → Option Word → Option Word → Type 0
WritesPart task None left old new = Unit {0}
WritesPart task (Some input) left old new = (out : Word) × AppendsPrefix old new out
    × (((status : ℕ) × IsTranscript grammars task (reading 0 0 input) status out)
    ⊎ ((more : Word) × StopsReading task (reading 0 0 input) left more × (out ≡ more ++ read_fault)))

-- and with words that ask for no task a part of the usage line
abbrev pub WritesPartOf : Option Task → Option Word → Option Word → Option Word → Option Word → Type 0
WritesPartOf None input left old new = AppendsPrefix old new usage
WritesPartOf (Some task) input left old new = WritesPart task input left old new

-- the line that is due where a run stops
abbrev pub last_line : Stop → Word
last_line ReadFault = read_fault
last_line stop = stop_text stop

-- the input is known, its site is good, and of what the task reads nothing is too long
abbrev pub IsWithin : Task → Reading → Type 0
IsWithin task input = (site_is_read input ≡ true) × ((site : Parts) × (site_for grammars (site_text input) ≡ Ok site))
    × (task ≢ Check → ending input ≡ 0)

abbrev pub IsGoodInput : Task → Option Word → Type 0
IsGoodInput task None = ⊥
IsGoodInput task (Some input) = IsWithin task (reading 0 0 input)
