use Rattle.std.proofs.Common.{◌++◌, sym, ap, subst, ◌∙◌}
use Rattle.dup_names.specs.Order.{obj_cmp}
use Rattle.dup_names.specs.Words.{in_order}
use Rattle.dup_build.specs.Loose.{LeavesPages}
use Rattle.dup_build.proofs.Leaving as leaving
use Rattle.dup_build.proofs.survey.loosened.Goals as goal

pub returns : goal.returns
returns c =
    leaving.loosened c.args.last.now.pages.value c.args.last.now.loose c.args.nodes.now c.args.dropped.now c.args.pages.now c.deref-3.result.now c.in_ok-made.made
    (subst (LeavesPages c.args.last.now.pages.value c.args.pages.now) (sym c.deref-3.ensures.value) (subst (λ ps. LeavesPages ps c.args.pages.now c.in_ok-left_by.field-0.items) (c.items.ensures ∙ c.deref-2.ensures) c.in_ok-left_by.ensures))
    (c.in_ok-made.ensures ∙ ap (in_order obj_cmp) (c.deref-4.ensures.value ∙ c.in_ok-extend_from_slice-2.ensures.items ∙ ap (λ l. l ++ c.deref-3.result.now)
    (c.in_ok-extend_from_slice.ensures.items ∙ (λ i. c.in_ok-loose.ensures i ++ (c.deref.ensures.value ∙ c.in_ok-embedded_by.ensures) i))))
