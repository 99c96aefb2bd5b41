use Rattle.dup_template.proofs.GoodParts.{pages-within}
use Rattle.dup_template.proofs.site.Site.page_rules.Goals as goal

pub returns-clause-within : goal.returns-clause-within
returns-clause-within c = rw c.items.ensures (pages-within c.self.inside.parts c.self.invariant)
