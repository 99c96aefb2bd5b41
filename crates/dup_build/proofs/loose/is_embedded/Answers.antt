use Rattle.std.proofs.Common.{◌∙◌}
use Rattle.dup_build.proofs.Holding.{by_parents}
use Rattle.dup_build.proofs.loose.is_embedded.Goals as goal

pub returns : goal.returns
returns c = c.embedded_counted.ensures ∙ by_parents c.args.nodes.now c.args.graph.now c.args.gone.now c.args.obj.now c.requires
