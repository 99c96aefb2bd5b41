use Rattle.dup_model.proofs.rendering_laws.expansions_law.Goals as goal
use Rattle.dup_model.proofs.Expanding.{expansions_good, good_right}

pub returns-clause-good : goal.returns-clause-good
returns-clause-good c = expansions_good

pub returns-clause-right : goal.returns-clause-right
returns-clause-right c = good_right
