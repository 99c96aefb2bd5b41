-- What the calls of a build answer, in the machine's words.
use Rattle.std.specs.Prelude.{◌≡◌, ⊤, List}
use Rattle.dup_names.specs.declared.object.Obj.{Obj}
use Rattle.dup_names.specs.Words.{Path}
use Rattle.dup_machine.specs.World as machine
use Rattle.dup_build.specs.declared.answers.Begun.{Begun}
use Rattle.dup_build.specs.declared.answers.Begun.TheVariants as begun
use Rattle.dup_build.specs.declared.answers.Finish.{Finish}
use Rattle.dup_build.specs.declared.answers.Finish.TheVariants as finish
use Rattle.dup_build.specs.declared.answers.Joined.{Joined}
use Rattle.dup_build.specs.declared.answers.Joined.TheVariants as joined
use Rattle.dup_build.specs.declared.answers.Put.{Put}
use Rattle.dup_build.specs.declared.answers.Put.TheVariants as put

abbrev pub finish_told : Finish → machine.Ended
finish_told finish.Idle = machine.Ended.Idle
finish_told (finish.Waiting n) = machine.Ended.Waiting n
finish_told (finish.Unjoined n) = machine.Ended.Unjoined n
finish_told (finish.Report v e j k touched) =
    machine.Ended.Report (record { version = v; expanded = e; joined = j; kept = k })

-- P holds of the touched paths of a report
abbrev pub ForTouched : Finish → (List Path → Type 0) → Type 0
ForTouched (finish.Report v e j k touched) P = P touched
ForTouched _ P = ⊤

-- the work, if any, isn't closed
abbrev pub IsUnclosed : Finish → Type 0
IsUnclosed (finish.Report v e j k touched) = ⊥
IsUnclosed _ = ⊤

abbrev pub begun_told : Begun → machine.Begun
begun_told (begun.Same v) = machine.Begun.Same v
begun_told (begun.Nothing v) = machine.Begun.Nothing v
begun_told (begun.Work v n) = machine.Begun.Opened v n

-- the answer to an expansion of this object says what the machine says, which knows no other site
abbrev pub SaysPut : Obj → Put → machine.Told → Type 0
SaysPut o put.Foreign told = ⊥
SaysPut o put.Unasked told = machine.Told.Unasked o ≡ told
SaysPut o (put.Stale item noted present) told = machine.Told.Stale item noted present ≡ told
SaysPut o (put.Kept n) told = machine.Told.Kept o n ≡ told

abbrev pub joined_told : Joined → machine.Joined
joined_told joined.Idle = machine.Joined.Idle
joined_told (joined.Waiting n) = machine.Joined.Waiting n
joined_told joined.Done = machine.Joined.Done
joined_told (joined.Level n) = machine.Joined.Level n
