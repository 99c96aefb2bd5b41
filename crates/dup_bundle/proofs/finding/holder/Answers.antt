use Rattle.std.proofs.Common.{ap, ◌∙◌}
use Rattle.std.proofs.lemmas.Bool.{or_left}
use Rattle.dup_model.specs.Editions.{has}
use Rattle.dup_model.proofs.Reached.{tie_itself}
use Rattle.dup_bundle.proofs.finding.holder.Goals as goal

pub leads-requires-clause-from : goal.leads-requires-clause-from
leads-requires-clause-from c = c.requires.within c.in-Some.other.now (c.loop-other.invariant.3 c.in-Some.other.now (ap (λ l. has l c.in-Some.other.now) c.in-Some.ensures.steps ∙ or_left _ _ (tie_itself c.in-Some.other.now)))
