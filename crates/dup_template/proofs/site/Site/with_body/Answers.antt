use Rattle.std.proofs.Common.{rules, ap, sym, subst, ◌∙◌}
use Rattle.dup_template.specs.Good.{IsGood}
use Rattle.dup_template.proofs.WithBody.{good_replaced}
use Rattle.dup_template.proofs.site.Site.with_body.Goals as goal

pub invariant_of-result : goal.invariant_of-result
invariant_of-result c = search (rules, good_replaced)
