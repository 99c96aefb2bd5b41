use Rattle.dup_bundle.proofs.Exact.{are_changed}
use Rattle.dup_bundle.proofs.finding.Ways.between.Goals as goal

pub levels_of-requires-clause-changed : goal.levels_of-requires-clause-changed
levels_of-requires-clause-changed c = are_changed c.args.edition.now c.args.target.now c.args.changed.now c.requires.changed
