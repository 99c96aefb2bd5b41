use Rattle.std.proofs.Common.{cond, ap, subst, ◌∙◌}
use Rattle.std.proofs.lemmas.List.{take_all}
use Rattle.dup_names.specs.Objects.{is_in}
use Rattle.dup_model.proofs.Objects.{IsOnce, once_in_order}
use Rattle.dup_sets.specs.Entries.{at}
use Rattle.dup_build.specs.Missing.{less}
use Rattle.dup_build.proofs.Counting.{lowered_more}
use Rattle.dup_build.proofs.missing.lower_each.Goals as goal

pub loop-obj-preserved : goal.loop-obj-preserved
loop-obj-preserved c =
    lowered_more c.args.among.now c.loop-obj.obj-index c.obj-item.result c.loop-obj-test.true c.obj-item.is (subst IsOnce c.requires (once_in_order c.args.among.now)) c.args.missing.now c.loop-obj.missing c.lower.new.self
    c.loop-obj.invariant c.lower.ensures

pub returns : goal.returns
returns c = λ x.
    c.loop-obj.invariant x
    ∙ ap (λ l. cond (is_in l x) (less (at c.args.missing.now x)) (at c.args.missing.now x)) (take_all c.loop-obj.obj-index c.args.among.now c.loop-obj-test.false)
