use Rattle.std.proofs.Common.{◌≡◌, ◌||◌, Bool, not, length, sym, ap, subst, ◌∙◌}
use Rattle.std.specs.Prelude.{is_some}
use Rattle.dup_machine.specs.Press.{press_of}
use Rattle.dup_machine.specs.Status.{is_of, status}
use Rattle.dup_machine.specs.World.{World}
use Rattle.dup_press.specs.Journaled.{Journaled}
use Rattle.dup_press.specs.Pressed.{Pressed, pressed}
use Rattle.dup_press.specs.Worked as worked
use Rattle.dup_press.proofs.Sending.{left_by}
use Rattle.dup_press.proofs.Standing.{mapped, status_from, status_there}
use Rattle.dup_press.proofs.press.Press.status.Goals as goal

pub returns : goal.returns
returns g c = λ (w : World) is.
    let p = worked.press_of (g.O.Outlet.log c.self.inside.outlet) c.self.inside.workshop in
    let site = c.self.inside.workshop.journal.site in
    let there : press_of w ≡ p = is ∙ ap pressed (sym c.self.view_is) in
    let journal : c.journal.result.now ≡ c.self.inside.workshop.journal = c.journal.ensures in
    let is_open : c.is_some.result ≡ is_some c.self.inside.workshop.work = c.is_some.ensures ∙ ap is_some c.work-work.ensures ∙ mapped c.self.inside.workshop.work in
    let is_left : is_some c.self.inside.workshop.work || not (is_of c.version-version.result c.target_version-target.result) || not c.is_empty.result ≡ c.is_pending-pending.result =
    sym (c.is_pending-pending.ensures ∙ (λ i. is_open i || not (c.is_of.ensures i) || not c.is_empty.result)) in
    subst (λ (x : Pressed). status x.works.journal.site w ≡ record {
      version = c.version-version.result;
      work = c.work-work.result;
      target = c.target_version-target.result;
      edition = c.number.result;
      pending = c.is_pending-pending.result;
    }) c.self.view_is
    (status_there site p w there
    ∙ status_from site p c.version-version.result c.work-work.result c.target_version-target.result c.number.result c.is_empty.result
    (c.version-version.ensures ∙ ap (λ (j : Journaled). length j.commits) journal) c.work-work.ensures (c.target_version-target.ensures ∙ ap (λ (x : Pressed). x.works.target) (sym c.self.view_is))
    (c.number.ensures ∙ ap length c.current.ensures) (left_by (g.O.Outlet.admits c.self.inside.outlet) c.self.inside.workshop (g.O.Outlet.log c.self.inside.outlet) c.self.inside.published c.self.inside.changed c.self.inside.schedule c.self.invariant c.is_empty.result c.is_empty.ensures)
    ∙ ap (λ (b : Bool). record {
      version = c.version-version.result;
      work = c.work-work.result;
      target = c.target_version-target.result;
      edition = c.number.result;
      pending = b;
    }) is_left)
