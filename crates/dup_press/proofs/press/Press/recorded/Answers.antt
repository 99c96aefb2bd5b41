use Rattle.std.proofs.Common.{◌≡◌, ◌≤◌, Some, sym, ap, subst, ◌∙◌}
use Rattle.dup_press.specs.Press.{aim, due_paths}
use Rattle.dup_press.specs.Pressed.{Pressed}
use Rattle.dup_press.proofs.Sending.{published_within}
use Rattle.dup_press.proofs.press.Press.recorded.Goals as goal

pub between-requires-clause-order : goal.between-requires-clause-order
between-requires-clause-order g c =
    let paths = c.requires.plan.0 in
    let within : c.self.inside.published ≤ (aim c.self.inside.workshop).version =
    published_within (g.O.Outlet.admits c.self.inside.outlet) c.self.inside.workshop (g.O.Outlet.log c.self.inside.outlet) c.self.inside.published c.self.inside.changed c.self.inside.schedule c.self.invariant paths (subst (λ (p : Pressed). due_paths p ≡ Some paths) (sym c.self.view_is) c.requires.plan.1) in
    subst (λ v. c.self.inside.published ≤ v) (sym (c.requires.version ∙ ap (λ (p : Pressed). (aim p.works).version) (sym c.self.view_is))) within
