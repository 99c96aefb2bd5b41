-- The tally of a hall: how many settles and gets it did, and what came of them.
use Rattle.std.specs.Prelude.{ℕ, ◌+◌, ◌-◌, ◌^◌, min, Option, Some, None}
use Rattle.dup_transcript.specs.Commands.{Command}
use Rattle.dup_transcript.specs.declared.command.Command.TheVariants as command
use Rattle.dup_script.specs.declared.said.HowWord.{HowWord}
use Rattle.dup_script.specs.declared.said.HowWord.TheVariants as how
use Rattle.dup_script.specs.declared.said.Said.{Said}
use Rattle.dup_script.specs.declared.said.Said.TheVariants as said
use Rattle.dup_hall.specs.declared.tally.Tally.{Tally}

-- a count that stays at its last value
abbrev pub counted : ℕ → ℕ → ℕ
counted count more = min (count + more) (2 ^ 64 - 1)

abbrev pub no_tally : Tally
no_tally = record { settles = 0; expanded = 0; joined = 0; gets = 0; hits = 0 }

-- one settle more, which expanded and joined so many
abbrev pub settled_once : ℕ → ℕ → Tally → Tally
settled_once expanded joined tally = record tally {
  settles = counted tally.settles 1;
  expanded = counted tally.expanded expanded;
  joined = counted tally.joined joined;
}

abbrev pub hits_of : HowWord → ℕ
hits_of how.Hit = 1
hits_of _ = 0

-- whether an answer tells of a hit, as a count
abbrev pub hits_in : Said → ℕ
hits_in (said.Found edition version how bytes) = hits_of how
hits_in _ = 0

-- one get more, with this answer
abbrev pub got_once : Said → Tally → Tally
got_once answer tally = record tally {
  gets = counted tally.gets 1;
  hits = counted tally.hits (hits_in answer);
}

-- a settle more, where this answer tells what it did
abbrev pub settled_as : Said → Tally → Tally
settled_as (said.Settled version edition bundles expanded joined kept) tally = settled_once expanded joined tally
settled_as _ tally = tally

-- the tally after a command and its answer
abbrev pub tallied : Command → Option Said → Tally → Tally
tallied command.Settle (Some answer) tally = settled_as answer tally
tallied (command.Get node pass path) (Some answer) tally = got_once answer tally
tallied _ _ tally = tally
