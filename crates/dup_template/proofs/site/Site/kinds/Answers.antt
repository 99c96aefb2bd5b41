use Rattle.dup_template.proofs.GoodParts.{kinds-within}
use Rattle.dup_template.proofs.site.Site.kinds.Goals as goal

pub returns-clause-within : goal.returns-clause-within
returns-clause-within c = rw c.items.ensures (kinds-within c.self.inside.parts c.self.invariant)
