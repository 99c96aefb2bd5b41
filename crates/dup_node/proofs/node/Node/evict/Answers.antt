use Rattle.std.proofs.Common.{subst, sym}
use Rattle.dup_model.proofs.Caching.{evicting_holds}
use Rattle.dup_model.specs.Serving.{HoldsPagesOf}
use Rattle.dup_node.proofs.node.Node.evict.Goals as goal

pub returns-clause-holds : goal.returns-clause-holds
returns-clause-holds c log holds = subst (HoldsPagesOf log) (sym c.evict.ensures.entries) (evicting_holds log c.self.inside.cache c.args.path.now (subst (HoldsPagesOf log) (sym c.self.view_is) holds))
