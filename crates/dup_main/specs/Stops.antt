-- Why a run stops, and what is written then.
use Rattle.std.specs.Prelude.{◌≡◌, ◌⊎◌, ℕ, ◌+◌, Bool, true, false, [], ◌++◌, Option, Some, None, Result, Err}
use Rattle.std.specs.Io.KnownBytes.{Appends}
use Rattle.dup_names.specs.Lines.{Reading, reading}
use Rattle.dup_names.specs.Words.{Word}
use Rattle.dup_template.specs.declared.site.Parts.{Parts}
use Rattle.dup_main.specs.declared.stop.Stop.{Stop}
use Rattle.dup_main.specs.declared.stop.Stop.TheVariants.{ReadFault, WriteFault, BadSite, NoMemory, LineTooLong, InputTooLong}
use Rattle.dup_transcript.specs.BadSites.{bad_site_text}
use Rattle.dup_transcript.specs.declared.task.Task.{Task}
use Rattle.dup_main.specs.Transcript.{grammars}
use Rattle.dup_transcript.specs.Transcript.{IsTranscript, too_long_line, too_long_input, too_long, ending}
use Rattle.dup_transcript.specs.Inputs.{site_text, site_lines, site_is_read, script}

-- a line or the input that is too long stands in the reading
abbrev pub IsTooLong : Stop → Word → Type 0
IsTooLong (LineTooLong number) text = text ≡ too_long_line number
IsTooLong InputTooLong text = text ≡ too_long_input
IsTooLong ReadFault text = Unit {0}
IsTooLong NoMemory text = Unit {0}
IsTooLong WriteFault text = ⊥
IsTooLong (BadSite why) text = ⊥

-- a stop that reading lines may give
abbrev pub IsReadingStop : Stop → Type 0
IsReadingStop WriteFault = ⊥
IsReadingStop (BadSite why) = ⊥
IsReadingStop _ = Unit {0}

abbrev pub cuts : Stop → Bool
cuts (LineTooLong number) = true
cuts InputTooLong = true
cuts _ = false

-- the site text of a reading, and the reading behind it
pub record IsSiteText (all rest : Reading) (text : Word) : Type 0 where
  pub whole : site_is_read all ≡ true
  pub says : site_text all ≡ text
  pub behind : script all ≡ rest
  pub ends : ending all ≡ ending rest

abbrev pub ReadsSite : Option Reading → Option Reading → Word → Type 0
ReadsSite None rest text = Unit {0}
ReadsSite (Some all) None text = ⊥
ReadsSite (Some all) (Some rest) text = IsSiteText all rest text

-- the site text and the line that ends it are as many lines as were read
abbrev pub CountsSite : Option Reading → ℕ → ℕ → Type 0
CountsSite None before behind = Unit {0}
CountsSite (Some all) before behind = before + site_lines all ≡ behind

-- the reading stops within the site text
abbrev pub StopsInSite : Stop → Option Reading → Type 0
StopsInSite stop None = IsReadingStop stop
StopsInSite stop (Some all) = (cuts stop ≡ true → (site_is_read all ≡ false) × (ending all ≡ 7))
    × IsTooLong stop (too_long all)

-- the line that is written at a stop, and the status
abbrev pub stop_text : Stop → Word
stop_text (LineTooLong number) = too_long_line number
stop_text InputTooLong = too_long_input
stop_text (BadSite why) = bad_site_text why
stop_text _ = []

abbrev pub stop_status : Stop → ℕ
stop_status (BadSite why) = 5
stop_status _ = 7

-- what a task may write for the lines behind the site text was written whole
abbrev pub WritesScript : (Reading → Word → Type 0) → Option Reading → Option Word → Option Word → Type 0
WritesScript may None old new = Unit {0}
WritesScript may (Some all) old new = (out : Word) × (ending all ≡ 0) × may all out × Appends old new out

-- a line that is too long ends these lines: the answers before it were written
abbrev pub StopsInScript : Stop → (Reading → Word → Type 0) → Option Reading → Option Word → Option Word →
    Type 0
StopsInScript stop may None old new = IsReadingStop stop ⊎ (stop ≡ WriteFault)
StopsInScript stop may (Some all) old new =
    (cuts stop ≡ true → (done : Word) × (ending all ≡ 7) × may all (done ++ stop_text stop)
    × Appends old new done)
    × (IsReadingStop stop ⊎ (stop ≡ WriteFault))

abbrev pub writes : Stop → Bool
writes (BadSite why) = true
writes stop = cuts stop

-- a run stops where only its last line is to be written
abbrev pub StopsAt : Task → Stop → Option Word → Option Word → Option Word → Type 0
StopsAt task stop None old new = Unit {0}
StopsAt task stop (Some input) old new =
    writes stop ≡ true → (done : Word)
    × IsTranscript grammars task (reading 0 0 input) (stop_status stop) (done ++ stop_text stop)
    × Appends old new done

-- a text without a good site, whose line stands in its place; or want of memory
abbrev pub BarsSite : Stop → Result Parts Word → Type 0
BarsSite (BadSite why) site = site ≡ Err (bad_site_text why)
BarsSite NoMemory site = Unit {0}
BarsSite _ site = ⊥
