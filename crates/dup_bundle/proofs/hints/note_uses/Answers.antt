use Rattle.std.proofs.Common.{◌&&◌, not, ap, arith, ◌∙◌}
use Rattle.dup_names.specs.Objects.{same_obj}
use Rattle.dup_bundle.specs.Hinted.{is_kept}
use Rattle.dup_bundle.proofs.Steps.{taken_more}
use Rattle.dup_bundle.proofs.hints.note_uses.Goals as goal

pub loop-shown-preserved : goal.loop-shown-preserved
loop-shown-preserved c = (
  λ o. taken_more (λ u. same_obj o u.0 && not (is_kept c.args.others.now u)) c.args.uses.now c.loop-shown.shown-index c.shown-item.result (omega arith)
      (λ old. c.in_ok-note_use.ensures.keeps o c.args.path.now (c.loop-shown.invariant.0 o old))
      (λ new. c.in_ok-note_use.ensures.notes o (ap (λ u. same_obj o u.0 && not (is_kept c.args.others.now u)) c.shown-item.is ∙ new)),
  λ o q h. c.in_ok-note_use.ensures.keeps o q (c.loop-shown.invariant.1 o q h),
)
