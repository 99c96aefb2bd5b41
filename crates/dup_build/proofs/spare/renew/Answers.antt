use Rattle.std.proofs.Common.{◌+◌, take}
use Rattle.dup_build.specs.Targets.{looks_by_path}
use Rattle.dup_build.proofs.Renewing.{renewed_looked, renewed_more, taken_more}
use Rattle.dup_build.proofs.spare.renew.Goals as goal

pub renew_one-requires-clause-looked : goal.renew_one-requires-clause-looked
renew_one-requires-clause-looked c =
    renewed_looked c.args.stock.now.content c.args.stock.now.looked (take c.loop-path.path-index c.args.paths.now) (looks_by_path c.args.pages.now) (looks_by_path c.loop-path.pages) c.loop-path.invariant.renewed c.requires.looked

pub loop-path-preserved : goal.loop-path-preserved
loop-path-preserved c = record {
  rising = c.in_ok-renew_one.ensures.rising;
  renewed = renewed_more c.args.stock.now.content (take c.loop-path.path-index c.args.paths.now) (take (c.loop-path.path-index + 1) c.args.paths.now) c.path-item.result (looks_by_path c.args.pages.now) (looks_by_path c.loop-path.pages)
      (looks_by_path c.renew_one.new.pages) (taken_more c.args.paths.now c.loop-path.path-index c.path-item.result c.loop-path-test.true c.path-item.is) c.loop-path.invariant.renewed c.in_ok-renew_one.ensures.renewed;
}
