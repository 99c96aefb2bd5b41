use Rattle.dup_bundle.proofs.levels.levels_of.Goals as goal

pub loop-level-preserved : goal.loop-level-preserved
loop-level-preserved c = (
  c.in_ok-level_from.ensures.left,
  c.in_ok-level_from.ensures.levels c.args.changed.now c.loop-level.invariant.1,
)
