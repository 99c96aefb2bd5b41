use Rattle.std.proofs.Common.{List, [], sym, ap, subst}
use Rattle.dup_names.specs.Words.{Path}
use Rattle.dup_template.specs.declared.site.Parts.{Parts}
use Rattle.dup_press.specs.Press.{AdmitsGood, IsPress, logged}
use Rattle.dup_press.specs.Worked.{Worked}
use Rattle.dup_press.proofs.Pressing.{first_press}
use Rattle.dup_press.proofs.press.Press.new.Goals as goal

pub invariant_of-result : goal.invariant_of-result
invariant_of-result g c =
    let shop : Worked = c.in_ok-workshop.workshop in
    let is = c.in_ok-workshop.ensures in
    subst (λ (l : List Path). IsPress (g.O.Outlet.admits c.args.outlet) shop (g.O.Outlet.log c.args.outlet) 0 l c.none-2.result) (sym c.none.ensures)
    (first_press (g.O.Outlet.admits c.args.outlet) shop (g.O.Outlet.log c.args.outlet) c.none-2.result c.requires.log
    (ap (λ (w : Worked). w.journal.commits) is) (ap (λ (w : Worked). w.target) is) (ap (λ (w : Worked). w.work) is)
    (subst (λ (s : Parts). AdmitsGood s (g.O.Outlet.admits c.args.outlet)) (sym (ap (λ (w : Worked). w.journal.site) is)) c.requires.admits)
    (λ t none. c.none-2.ensures.scheduled (logged shop []) t none))
