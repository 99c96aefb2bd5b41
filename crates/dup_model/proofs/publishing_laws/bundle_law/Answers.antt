use Rattle.dup_model.proofs.publishing_laws.bundle_law.Goals as goal
use Rattle.dup_model.specs.Editions.{looks, target_looks, has}
use Rattle.dup_model.proofs.BundleFacts.{bundle_is_none}
use Rattle.dup_model.proofs.Finest.{finest_is, no_part}
use Rattle.dup_model.proofs.Closed.{finest_bundle_of}

pub returns-clause-some : goal.returns-clause-some
returns-clause-some c = λ e t paths needed answer. finest_bundle_of (looks e) (target_looks t) needed (has paths) (finest_is e t paths answer)

pub returns-clause-none : goal.returns-clause-none
returns-clause-none c = bundle_is_none

pub returns-clause-parts : goal.returns-clause-parts
returns-clause-parts c = no_part
