use Rattle.std.proofs.Common.{◌≡◌, None, sym, ap, subst, ◌∙◌}
use Rattle.dup_press.specs.Press.{aim, due_paths}
use Rattle.dup_press.specs.Pressed.{Pressed}
use Rattle.dup_press.proofs.Sending.{target_aim, untargeted}
use Rattle.dup_press.proofs.press.Press.record.Goals as goal

pub record_to-requires : goal.record_to-requires
record_to-requires g c =
    c.of.ensures
    ∙ target_aim (g.O.Outlet.admits c.self.inside.outlet) c.self.inside.workshop (g.O.Outlet.log c.self.inside.outlet) c.self.inside.published c.self.inside.changed c.self.inside.schedule c.self.invariant c.in-Some.target.now (sym c.in-Some.ensures.version) c.in-Some.ensures.looks c.in-Some.ensures.order
    ∙ ap (λ (p : Pressed). aim p.works) c.self.view_is

pub returns-in-None-clause-none : goal.returns-in-None-clause-none
returns-in-None-clause-none g c = λ none.
    subst (λ (p : Pressed). due_paths p ≡ None) c.self.view_is (untargeted (g.O.Outlet.admits c.self.inside.outlet) c.self.inside.workshop (g.O.Outlet.log c.self.inside.outlet) c.self.inside.published c.self.inside.changed c.self.inside.schedule c.self.invariant (sym c.in-None.ensures.version))
