use Rattle.dup_template.specs.SameStatement.{body-Decides}
use Rattle.dup_template.proofs.laws.same_bodies_law.Goals as goal

pub returns : goal.returns
returns c = body-Decides
