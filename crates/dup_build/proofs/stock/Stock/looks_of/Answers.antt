use Rattle.dup_model.specs.Looks.{look}
use Rattle.dup_build.proofs.Forgetting.{mapped_push}
use Rattle.dup_sets.proofs.Sets.{item_in}
use Rattle.dup_build.proofs.stock.Stock.looks_of.Goals as goal

pub look-requires : goal.look-requires
look-requires c = c.requires c.obj-item.result (item_in c.args.objs.now c.loop-obj.obj-index c.obj-item.result c.loop-obj-test.true c.obj-item.is)

pub loop-obj-preserved : goal.loop-obj-preserved
loop-obj-preserved c =
    mapped_push (λ s. s.value) (look c.args.self.now.content) c.loop-obj.made.items c.push.new.self.items c.in_ok-look.field-0 c.args.objs.now c.loop-obj.obj-index c.obj-item.result
    c.in_ok-push.ensures.items c.in_ok-look.ensures c.loop-obj.invariant c.loop-obj-test.true c.obj-item.is
