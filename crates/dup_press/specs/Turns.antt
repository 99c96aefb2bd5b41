-- How a press settles: turns of a hand and a put until none waits, and a step again and again until it tells
-- that nothing is left.
use Rattle.std.specs.Prelude.{◌≡◌, ◌≢◌, ◌+◌, ◌-◌, ◌^◌, min, ℕ, zero, suc, [], Some, None, length}
use Rattle.dup_names.specs.declared.object.Obj.{Obj}
use Rattle.dup_template.specs.declared.site.Parts.{Parts}
use Rattle.dup_model.specs.Embeddings.{EmbedsEarlier}
use Rattle.dup_model.specs.Expansions.{notes}
use Rattle.dup_model.specs.Found.{waiting}
use Rattle.dup_model.specs.Pages.{live}
use Rattle.dup_model.specs.Versions.{content, version}
use Rattle.dup_machine.specs.Presses.{Press, finish_step, hand_step, join_step, publish_step, put_step}
use Rattle.dup_machine.specs.Works.{unjoined}
use Rattle.dup_machine.specs.World.{Counts, Told, Work}
use Rattle.dup_machine.specs.World.Ended.{Report}
use Rattle.dup_machine.specs.World.Joined.{Done}
use Rattle.dup_machine.specs.World.Told.{Finished, Joins, NothingChanged}
use Rattle.dup_press.specs.Pressed.{Pressed, pressed}
use Rattle.dup_press.specs.Told.{summary_of}
use Rattle.dup_press.specs.declared.answers.Summary.{Summary}

-- an object is handed, and its expansion over the content of the work is brought back
pub record IsTurn (site : Parts) (p q : Press) : Type 0 where
  pub obj : Obj
  pub work : Work
  pub held : Press
  pub busy : p.work ≡ Some work
  pub handed : hand_step site p.work p.target p ≡ (Some obj, held)
  pub brought : (put_step site obj (notes (version site held.commits work.version) obj) held.work held.target held).1 ≡ q

-- so many turns lead from one press to another
abbrev pub Turns : Parts → ℕ → Press → Press → Type 0
Turns site zero p q = p ≡ q
Turns site (suc k) p q = (mid : Press) × (Turns site k p mid × IsTurn site mid q)

-- turns lead from one press to another, in which none waits
pub record AllHanded (site : Parts) (p q : Press) : Type 0 where
  pub count : ℕ
  pub turns : Turns site count p q
  pub none : hand_step site q.work q.target q ≡ (None, q)

-- a meter after so many ticks
abbrev pub ticked : ℕ → ℕ → ℕ
ticked count zero = count
ticked count (suc k) = min (ticked count k + 1) (2 ^ 64 - 1)

-- the same, and the meter counts each turn
pub record HasExpanded (site : Parts) (p : Press) (before : ℕ) (q : Press) (after : ℕ) : Type 0 where
  pub handed : AllHanded site p q
  pub counted : after ≡ ticked before handed.count

-- so many times a step that tells something else than this leads from one press to another
abbrev pub Repeats : (Press → Told × Press) → Told → ℕ → Press → Press → Type 0
Repeats step end zero p q = p ≡ q
Repeats step end (suc n) p q =
    (mid : Press) × ((told : Told) × (Repeats step end n p mid × (step mid ≡ (told, q)) × (told ≢ end)))

-- the step leads on until it tells this, and changes nothing
pub record UntilTold (step : Press → Told × Press) (end : Told) (p q : Press) : Type 0 where
  pub count : ℕ
  pub repeats : Repeats step end count p q
  pub ends : step q ≡ (end, q)

-- `join` and `publish`, as steps of a press by itself
abbrev pub join_on : Parts → Press → Told × Press
join_on site p = join_step site p.work p.target p

abbrev pub publish_on : Parts → Press → Told × Press
publish_on site p = publish_step site p.target p

-- a work is open, at whose content templates embed earlier ones
pub record IsWorking (site : Parts) (p : Press) : Type 0 where
  pub work : Work
  pub busy : p.work ≡ Some work
  pub earlier : EmbedsEarlier (version site p.commits work.version)

-- and none waits
pub record IsCalm (site : Parts) (p : Press) : Type 0 where
  pub work : Work
  pub busy : p.work ≡ Some work
  pub earlier : EmbedsEarlier (version site p.commits work.version)
  pub calm : waiting (version site p.commits work.version) work.done ≡ []

-- and all that is found has a look
pub record IsJoined (site : Parts) (p : Press) : Type 0 where
  pub work : Work
  pub busy : p.work ≡ Some work
  pub calm : waiting (version site p.commits work.version) work.done ≡ []
  pub joined : unjoined (version site p.commits work.version) work ≡ []

-- the open work is done and closed, and all is published; the meter counts each turn
pub record HasWorked (old : Pressed) (before : ℕ) (summary : Summary) (new : Pressed) (after : ℕ) : Type 0 where
  pub handed : Press
  pub joined : Press
  pub finished : Press
  pub counts : Counts
  pub hands : AllHanded old.works.journal.site (pressed old) handed
  pub joins : UntilTold (join_on old.works.journal.site) (Joins Done) handed joined
  pub finishes : finish_step old.works.journal.site joined.work joined.target joined ≡ (Finished (Report counts), finished)
  pub publishes : UntilTold (publish_on old.works.journal.site) NothingChanged finished (pressed new)
  pub says : summary ≡ summary_of old counts new
  pub counted : after ≡ ticked before hands.count

-- where the target is of the last version, nothing is expanded or joined
abbrev pub counts_left : Pressed → Counts
counts_left p = record {
  version = length p.works.journal.commits;
  expanded = 0;
  joined = 0;
  kept = length (live (content p.works.journal.site p.works.journal.commits));
}

-- and all is published
pub record HasPublished (old : Pressed) (summary : Summary) (new : Pressed) : Type 0 where
  pub publishes : UntilTold (publish_on old.works.journal.site) NothingChanged (pressed old) (pressed new)
  pub says : summary ≡ summary_of old (counts_left old) new
