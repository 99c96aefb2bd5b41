use Rattle.std.proofs.Common.{ap, arith, ◌∙◌}
use Rattle.std.proofs.lemmas.Bool.{and_from, and_parts}
use Rattle.std.specs.FinMap as fin
use Rattle.std.specs.Option.{is_none}
use Rattle.std.specs.Ordering.{eq_by_cmp}
use Rattle.dup_names.specs.Order.{text_cmp}
use Rattle.dup_bundle.proofs.Steps.{taken_more}
use Rattle.dup_bundle.proofs.hints.note_links.Goals as goal

pub loop-link-preserved : goal.loop-link-preserved
loop-link-preserved c = (
  λ p given. taken_more (eq_by_cmp text_cmp p) c.args.links.now c.loop-link.link-index c.link-item.result (omega arith)
      (λ old. c.in_ok-note_link.ensures.keeps p c.args.path.now (c.loop-link.invariant.0 p (and_from _ _ old (and_parts _ _ given).1)))
      (λ new. c.in_ok-note_link.ensures.notes p (and_from (eq_by_cmp text_cmp p c.link-item.result) (is_none (fin.get c.args.target.now.pages p)) (ap (eq_by_cmp text_cmp p) c.link-item.is ∙ new) (and_parts _ _ given).1))
      (and_parts _ _ given).0,
  λ p q h. c.in_ok-note_link.ensures.keeps p q (c.loop-link.invariant.1 p q h),
)
