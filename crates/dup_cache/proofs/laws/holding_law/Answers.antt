use Rattle.dup_cache.proofs.Holding.{caught_up_holds, growing_holds, paths_are_places}
use Rattle.dup_cache.proofs.laws.holding_law.Goals as goal

pub returns-clause-places : goal.returns-clause-places
returns-clause-places c = paths_are_places

pub returns-clause-grows : goal.returns-clause-grows
returns-clause-grows c = growing_holds

pub returns-clause-catch_up : goal.returns-clause-catch_up
returns-clause-catch_up c = caught_up_holds
