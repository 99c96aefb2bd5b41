use Rattle.std.proofs.Common.{◌≡◌, sym, subst, ◌∙◌}
use Rattle.std.specs.Prelude.{OnErr, Result, Ok, Err}
use Rattle.std.proofs.lemmas.Bool.{true≢false}
use Rattle.dup_machine.specs.Presses.{publish_step}
use Rattle.dup_machine.specs.World as machine
use Rattle.dup_press.specs.Pressed.{Pressed, pressed}
use Rattle.dup_press.proofs.Sending.{something_told}
use Rattle.dup_press.proofs.press.Press.publish.Goals as goal

on_err : {T E : Type 0} (r : Result T E) (P : Type 0) → P → OnErr r P
on_err (Ok t) P is = tt
on_err (Err e) P is = is

pub returns-in_err-record-clause-due : goal.returns-in_err-record-clause-due
returns-in_err-record-clause-due g c =
    on_err c.from_residual.result _
    (subst (λ (p : Pressed). (publish_step p.works.journal.site p.works.target (pressed p)).0 ≡ machine.Told.NothingChanged → ⊥) c.self.view_is
    (something_told (g.O.Outlet.admits c.self.inside.outlet) c.self.inside.workshop (g.O.Outlet.log c.self.inside.outlet) c.self.inside.published c.self.inside.changed c.self.inside.schedule c.self.invariant (λ none. true≢false (sym (c.is_empty.ensures.1 none) ∙ c.if-is_empty.false))))
