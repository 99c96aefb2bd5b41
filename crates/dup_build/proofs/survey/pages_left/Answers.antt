use Rattle.std.proofs.Common.{◌++◌, ◌∷◌, [], cond, ap, sym, subst, arith, ◌∙◌}
use Rattle.dup_build.specs.Loose.{shown_by, LeavesPages}
use Rattle.dup_build.proofs.Leaving.{left_both, left_rest}
use Rattle.dup_build.proofs.Pages.{rest_of}
use Rattle.dup_build.proofs.survey.pages_left.Goals as goal

pub loop-old_at-preserved : goal.loop-old_at-preserved
loop-old_at-preserved c = record {
  in_old = omega arith;
  in_new = omega arith;
  so_far = left_both c.args.old.now c.args.new.now c.loop-old_at.left.items c.loop-old_at.old_at c.index-old-old_at.result c.loop-old_at-test.true c.index-old-old_at.is c.loop-old_at.invariant.so_far
      c.loop-old_at.new_at c.index-new-new_at.result c.if-new_at-new.true c.index-new-new_at.is c.push_unless.new.left.items
      (c.in_ok-push_unless-in-Equal.ensures ∙ (λ i. cond (c.eq.ensures i) c.loop-old_at.left.items (c.loop-old_at.left.items ++ c.index-old-old_at.result.1 ∷ [])));
}

pub returns : goal.returns
returns c =
    subst (LeavesPages c.args.old.now c.args.new.now) (ap (λ l. c.loop-old_at.left.items ++ l) (sym (c.deref.ensures.value ∙ c.in_ok-rest.ensures ∙ ap shown_by (rest_of c.args.old.now c.loop-old_at.old_at))) ∙ sym c.in_ok-extend_from_slice.ensures.items)
    (left_rest c.args.old.now c.args.new.now c.loop-old_at.left.items c.loop-old_at.old_at c.loop-old_at.invariant.so_far)
