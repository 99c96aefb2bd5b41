use Rattle.std.proofs.Common.{Some, cond, sym, ap, ◌∙◌}
use Rattle.std.specs.Cmp.{eq_by_cmp_equiv}
use Rattle.std.specs.Cmp.Lexicographic.{nat_list_cmp_total}
use Rattle.std.specs.Ordering.{eq_by_cmp}
use Rattle.dup_names.specs.Order.{text_cmp}
use Rattle.dup_model.specs.Editions.{has}
use Rattle.dup_bundle.specs.Waiting.{level_of}
use Rattle.dup_bundle.proofs.Steps.{cond_or}
use Rattle.dup_bundle.proofs.levels.put_at_level.Goals as goal

pub loop-path-preserved : goal.loop-path-preserved
loop-path-preserved c = (
  tt,
  tt,
  λ q.
      ap (λ o. cond (has c.next.new.self q) (Some c.args.level) o) (c.in_ok-insert.ensures.updates.0 q)
      ∙ ap (λ b. cond (has c.next.new.self q) (Some c.args.level) (cond b (Some c.args.level) (level_of c.loop-path.levels q))) ((eq_by_cmp_equiv nat_list_cmp_total).symm c.in-Some.path.now q)
      ∙ cond_or (eq_by_cmp text_cmp q c.in-Some.path.now) (has c.next.new.self q) (Some c.args.level) (level_of c.loop-path.levels q)
      ∙ ap (λ l. cond (has l q) (Some c.args.level) (level_of c.loop-path.levels q)) (sym c.in-Some.ensures.steps)
      ∙ c.loop-path.invariant.2 q,
)
