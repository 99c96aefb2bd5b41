-- Where a command leaves a hall that ran out of memory in its midst.
use Rattle.std.proofs.Common.{◌≡◌, inl, inr, ℕ, zero, suc, refl, sym, ap, ◌∙◌, subst, List, [], ◌∷◌, ◌++◌, arith}
use Rattle.std.specs.Prelude.{◌⊎◌, OnErr, Option, Some, None, Result, Ok, Err}
use Rattle.std.specs.FinMap as fin
use Rattle.std.specs.List.{All, fold}
use Rattle.std.specs.Ordering.{nat_cmp}
use Rattle.dup_names.specs.Words.{Word}
use Rattle.dup_template.specs.declared.site.Parts.{Parts}
use Rattle.dup_model.specs.Editions.{Bundle}
use Rattle.dup_model.specs.Journal.{Limits}
use Rattle.dup_machine.specs.Press.{press_of}
use Rattle.dup_machine.specs.Presses.{Press}
use Rattle.dup_machine.specs.Run.{step}
use Rattle.dup_machine.specs.World.{Event, World}
use Rattle.dup_machine.specs.World.Event.{Begin, Comes, Deliver, Evict, Finish, Hand, Join, Node, Publish, Put, Request}
use Rattle.dup_press.specs.Pressed.{Pressed, pressed}
use Rattle.dup_press.specs.Reached.{IsOfSettle, IsReached}
use Rattle.dup_transcript.specs.Commands.{Command}
use Rattle.dup_transcript.specs.Turns.{Standing, StandsAs}
use Rattle.dup_transcript.proofs.MachineTurns.{hand_stays, put_empties}
use Rattle.dup_hall.specs.Kept.{Acts, HasCome, Reaches, limits_of, site_of, standing}
use Rattle.dup_hall.specs.Serving.{AreSame, HasTurned, Nodes}
use Rattle.dup_hall.specs.declared.hall.Hall.{Hall as Kept}
use Rattle.dup_hall.proofs.Acting.{with_nodes}

-- by a command that was done, whatever is written of it
pub turn_reaches : (old new : Kept) (number : ℕ) (command : Command) (text : Word) → Acts old new number command text → Reaches old new
turn_reaches old new number command text acts w stands =
    let turn = acts w stands in
    (turn.1, record { press = turn.3.press; nodes = turn.3.nodes })

-- where nothing happened
pub same_reaches : (old new : Kept) → new.press ≡ old.press → AreSame old.nodes new.nodes → Reaches old new
same_reaches old new press nodes w stands =
    ([], record { press = stands.press ∙ ap pressed (sym press); nodes = λ n. stands.nodes n ∙ sym (nodes n) })

-- by some events of a settle
module _ (site : Parts) (limits : Limits) where
  event_keeps : (event : Event) (w : World) → IsOfSettle event → (step site limits w event).nodes ≡ w.nodes
  event_keeps Begin w is = refl
  event_keeps (Hand slot) w is = subst (λ (k : ℕ). (step site limits w (Hand k)).nodes ≡ w.nodes) (sym is) (hand_stays site limits w).0
  event_keeps (Put slot) w is = subst (λ (k : ℕ). (step site limits w (Put k)).nodes ≡ w.nodes) (sym is) (put_empties site limits w).0.0
  event_keeps Join w is = refl
  event_keeps Finish w is = refl
  event_keeps Publish w is = refl
  event_keeps (Comes c) w is = absurd is
  event_keeps (Node number capacity mode) w is = absurd is
  event_keeps (Deliver node) w is = absurd is
  event_keeps (Request node pass path kept) w is = absurd is
  event_keeps (Evict node path) w is = absurd is

  events_keep : (events : List Event) (w : World) → All IsOfSettle events → (fold (step site limits) w events).nodes ≡ w.nodes
  events_keep [] w all = refl
  events_keep (event ∷ events) w all = events_keep events (step site limits w event) (λ k d l. all (suc k) d (omega arith)) ∙ event_keeps event w (all 0 event (omega arith))

pub settle_reaches : (old new : Kept) → IsReached old.press new.press → AreSame old.nodes new.nodes → Reaches old new
settle_reaches old new reached nodes w stands =
    let h = reached.reached (limits_of old) w stands.press stands.slot in (
      h.events,
      record {
        press = h.press;
        nodes = λ n. ap (λ m. fin.get m n) (events_keep (site_of old) (limits_of old) h.events w h.settling) ∙ stands.nodes n ∙ sym (nodes n);
      },
    )

-- by a command of the nodes that failed, or that can't be told
pub nodes_reach : (s : Kept) (nodes : Nodes) (command : Command) (log : List Bundle) → log ≡ s.press.log → AreSame s.nodes nodes ⊎ HasTurned log s.nodes command nodes → Reaches s (with_nodes s nodes)
nodes_reach s nodes command log at failed = elim failed [
  | inl same ↦ same_reaches s (with_nodes s nodes) refl same
  | inr turned ↦ turn_reaches s (with_nodes s nodes) 0 command turned.0 (turned.1 (site_of s) (limits_of s) (pressed s.press) (sym at))
]

-- a command that changes nothing
pub stays : (s : Kept) → Reaches s s
stays s = same_reaches s s refl (λ n. refl)
