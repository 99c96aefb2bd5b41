use Rattle.std.proofs.Common.{sym, subst}
use Rattle.std.specs.Prelude.{IfErr, IfOk}
use Rattle.dup_build.specs.Answers.{IsUnclosed, finish_told}
use Rattle.dup_build.specs.Built.{Built}
use Rattle.dup_build.specs.Closing.{IsClosing}
use Rattle.dup_machine.specs.Presses.{finish_step}
use Rattle.dup_machine.specs.World as machine
use Rattle.dup_press.specs.Worked.{IsStep, Worked, built_of}
use Rattle.dup_press.proofs.Works.{same_built, unclosed_step}
use Rattle.dup_press.proofs.workshop.Workshop.closing.Goals as goal

pub returns-clause-closing : goal.returns-clause-closing
returns-clause-closing c =
    subst (λ (w : Worked). IfOk c.in_ok-closing.closing (IsClosing (built_of w))) c.self.view_is
    (subst (λ (b : Built). IfOk c.in_ok-closing.closing (IsClosing b)) (sym (same_built c.self.inside.journal c.self.inside.build c.self.invariant)) c.in_ok-closing.ensures.closing)

pub returns-clause-unclosed : goal.returns-clause-unclosed
returns-clause-unclosed c =
    subst (λ (w : Worked). IfErr c.in_ok-closing.closing (λ finish. IsUnclosed finish × IsStep (finish_step w.journal.site w.work w.target) w (machine.Told.Finished (finish_told finish)) w)) c.self.view_is
    (unclosed_step c.self.inside.journal c.self.inside.build c.in_ok-closing.closing c.self.invariant.works c.in_ok-closing.ensures.told c.in_ok-closing.ensures.unclosed)
