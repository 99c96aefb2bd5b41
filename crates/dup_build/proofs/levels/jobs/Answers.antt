use Rattle.std.proofs.Common.{◌≡◌, true, ap, ◌∙◌, sym}
use Rattle.dup_names.specs.Objects.{is_in}
use Rattle.dup_build.specs.Stocked.{level_in}
use Rattle.dup_sets.proofs.Sets.{item_in}
use Rattle.dup_build.proofs.Joining.{level_done, level_ready}
use Rattle.dup_model.specs.Looks.{look}
use Rattle.dup_join.specs.Jobs.{look_of}
use Rattle.dup_build.proofs.Forgetting.{mapped_push}
use Rattle.dup_build.proofs.levels.jobs.Goals as goal

pub join_job-requires-clause-done : goal.join_job-requires-clause-done
join_job-requires-clause-done c =
    let inside : is_in (level_in c.args.stock.now) c.obj-item.result ≡ true =
    ap (λ l. is_in l c.obj-item.result) (sym c.requires.level) ∙ item_in c.args.level.now c.loop-obj.obj-index c.obj-item.result c.loop-obj-test.true c.obj-item.is in
    level_done c.args.stock.now c.requires.calm c.obj-item.result inside

pub join_job-requires-clause-looked : goal.join_job-requires-clause-looked
join_job-requires-clause-looked c =
    let inside : is_in (level_in c.args.stock.now) c.obj-item.result ≡ true =
    ap (λ l. is_in l c.obj-item.result) (sym c.requires.level) ∙ item_in c.args.level.now c.loop-obj.obj-index c.obj-item.result c.loop-obj-test.true c.obj-item.is in
    level_ready c.args.stock.now c.obj-item.result inside

pub loop-obj-preserved : goal.loop-obj-preserved
loop-obj-preserved c =
    mapped_push look_of (look c.args.stock.now.content) c.loop-obj.made.items c.push.new.self.items c.in_ok-join_job.field-0 c.args.level.now c.loop-obj.obj-index c.obj-item.result
    c.in_ok-push.ensures.items c.in_ok-join_job.ensures c.loop-obj.invariant c.loop-obj-test.true c.obj-item.is
