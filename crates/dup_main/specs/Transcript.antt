-- What the program writes: the transcript, with the grammars of site texts and feed messages.
use Rattle.std.specs.Prelude.{ℕ, codes, Option, Some, None}
use Rattle.std.specs.Io.KnownBytes.{Appends}
use Rattle.dup_names.specs.Lines.{line, reading}
use Rattle.dup_names.specs.Words.{Word}
use Rattle.dup_feed.specs.Feed.{feed_says}
use Rattle.dup_site.specs.Reads.{site_says}
use Rattle.dup_site.specs.Spelling.{written}
use Rattle.dup_transcript.specs.Transcript.{Grammars, IsTranscript}
use Rattle.dup_transcript.specs.ScriptRuns.{HasRun}
use Rattle.dup_transcript.specs.declared.task.Task.{Task}

abbrev pub grammars : Grammars
grammars = record { site = site_says; canonical = written; feed = feed_says }

abbrev pub usage : Word
usage = line (codes "usage: dup_top play | check | render | games N | serve PORT NODES CAPACITY MODE WORKERS")

-- where source and sink tell their bytes, the sink's grew by a transcript of the source's
abbrev pub WritesTranscript : Task → Option Word → Option Word → Option Word → ℕ → Type 0
WritesTranscript task None old new status = Unit {0}
WritesTranscript task (Some input) old new status = (out : Word)
    × IsTranscript grammars task (reading 0 0 input) status out × Appends old new out

-- where source and sink tell their bytes, what the sink grew by is the run of a script, where one was played
abbrev pub WritesRun : Option Word → Option Word → Option Word → Type 0
WritesRun None old new = Unit {0}
WritesRun (Some input) old new = (out : Word) × HasRun grammars (reading 0 0 input) out × Appends old new out
