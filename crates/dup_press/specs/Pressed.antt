-- A press, as its callers see it, and its steps.
use Rattle.std.specs.Prelude.{◌≡◌, ℕ, List, Option}
use Rattle.dup_names.specs.declared.object.Obj.{Obj}
use Rattle.dup_model.specs.Editions.{Bundle}
use Rattle.dup_machine.specs.Presses.{Press}
use Rattle.dup_machine.specs.World.{Told}
use Rattle.dup_build.specs.Answers.{SaysPut}
use Rattle.dup_build.specs.declared.answers.Put.{Put}
use Rattle.dup_press.specs.Worked.{Worked, press_of}

-- the journal and the works, the log that its outlet means, and which published log that is
pub record Pressed : Type 0 where
  pub works : Worked
  pub log : List Bundle
  pub place : List ℕ

-- the machine's press
abbrev pub pressed : Pressed → Press
pressed p = press_of p.log p.works

-- this step of the machine's press tells this and leads here
abbrev pub Tells : (Press → Told × Press) → Pressed → Told → Pressed → Type 0
Tells step old told new = step (pressed old) ≡ (told, pressed new)

-- the step of a hand gives this object, if any, and leads here
abbrev pub Hands : (Press → Option Obj × Press) → Pressed → Option Obj → Pressed → Type 0
Hands step old obj new = step (pressed old) ≡ (obj, pressed new)

-- the step of a put of an expansion of o tells what the answer says, and leads here
abbrev pub TellsPut : (Press → Told × Press) → Pressed → Obj → Put → Pressed → Type 0
TellsPut step old o put new = SaysPut o put (step (pressed old)).0 × ((step (pressed old)).1 ≡ pressed new)

-- the site, the limits and the outlet are the same
pub record IsSamePlace (old new : Pressed) : Type 0 where
  pub site : new.works.journal.site ≡ old.works.journal.site
  pub limits : new.works.journal.limits ≡ old.works.journal.limits
  pub place : new.place ≡ old.place
