use Rattle.std.proofs.Common.{◌≡◌, None, length, sym, subst}
use Rattle.std.specs.Prelude.{IfSome}
use Rattle.dup_model.specs.Pages.{live}
use Rattle.dup_model.specs.Versions.{version}
use Rattle.dup_press.specs.Worked.{Worked}
use Rattle.dup_press.proofs.Works.{known_live}
use Rattle.dup_press.proofs.workshop.Workshop.live.Goals as goal

pub returns : goal.returns
returns c =
    subst (λ (w : Worked). IfSome w.target (λ v. c.known.result ≡ length (live (version w.journal.site w.journal.commits v)))) c.self.view_is
    (known_live c.self.inside.journal c.self.inside.build c.known.result c.self.invariant
    (subst (λ (w : Worked). w.work ≡ None) (sym c.self.view_is) c.requires.idle) c.known.ensures)
