-- Where a settle leaves a press that ran out of memory in its midst.
use Rattle.std.specs.Prelude.{◌≡◌, ℕ, ⊤, List, ◌++◌, None}
use Rattle.std.specs.FinMap as fin
use Rattle.std.specs.List.{All, fold}
use Rattle.dup_model.specs.Commits.{Commit}
use Rattle.dup_model.specs.Editions.{Bundle}
use Rattle.dup_model.specs.Journal.{Limits}
use Rattle.dup_machine.specs.Press.{press_of}
use Rattle.dup_machine.specs.Run.{step}
use Rattle.dup_machine.specs.World.{Event, World}
use Rattle.dup_machine.specs.World.Event.{Begin, Comes, Deliver, Evict, Finish, Hand, Join, Node, Publish, Put, Request}
use Rattle.dup_press.specs.Pressed.{Pressed, pressed}

-- a settle may do this: it hands into slot 0 and puts from it
abbrev pub IsOfSettle : Event → Type 0
IsOfSettle Begin = ⊤
IsOfSettle (Hand slot) = slot ≡ 0
IsOfSettle (Put slot) = slot ≡ 0
IsOfSettle Join = ⊤
IsOfSettle Finish = ⊤
IsOfSettle Publish = ⊤
IsOfSettle (Comes c) = ⊥
IsOfSettle (Node number capacity mode) = ⊥
IsOfSettle (Deliver node) = ⊥
IsOfSettle (Request node pass path kept) = ⊥
IsOfSettle (Evict node path) = ⊥

-- events of a settle lead from this world to the press as it stands
pub record HasReached (old new : Pressed) (limits : Limits) (w : World) : Type 0 where
  pub events : List Event
  pub settling : All IsOfSettle events
  pub press : press_of (fold (step old.works.journal.site limits) w events) ≡ pressed new

-- so it is in each world where the machine's press was so and slot 0 empty; no commit came, and the log begins
-- with the old one
pub record IsReached (old new : Pressed) : Type 0 where
  pub reached : (limits : Limits) (w : World) → press_of w ≡ pressed old → fin.get w.slots 0 ≡ None →
      HasReached old new limits w
  pub commits : new.works.journal.commits ≡ old.works.journal.commits
  pub log : (more : List Bundle) × (old.log ++ more ≡ new.log)
