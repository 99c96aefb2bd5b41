use Rattle.std.proofs.Common.{ap, ◌∙◌}
use Rattle.std.specs.FinMap as fin
use Rattle.dup_sets.proofs.Sets.{item_in}
use Rattle.dup_build.proofs.Graphs.{still_there}
use Rattle.dup_build.proofs.reads.drop_all.Goals as goal

pub loop-obj-preserved : goal.loop-obj-preserved
loop-obj-preserved c = λ o out.
    ap (λ g. fin.get g o) c.drop_obj.ensures.rest
    ∙ still_there c.args.gone.now c.loop-obj.graph c.obj-item.result o (item_in c.args.gone.now c.loop-obj.obj-index c.obj-item.result c.loop-obj-test.true c.obj-item.is) out
    ∙ c.loop-obj.invariant o out
