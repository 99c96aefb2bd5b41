use Rattle.dup_template.proofs.GoodParts.{templates-within}
use Rattle.dup_template.proofs.site.Site.templates.Goals as goal

pub returns-clause-within : goal.returns-clause-within
returns-clause-within c = rw c.items.ensures (templates-within c.self.inside.parts c.self.invariant)
