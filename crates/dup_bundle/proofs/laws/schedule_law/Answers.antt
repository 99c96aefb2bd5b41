use Rattle.std.proofs.Common.{refl}
use Rattle.dup_bundle.specs.Between.{changed_paths}
use Rattle.dup_bundle.proofs.Ordered.{finest_stays, needs_stay, ordered}
use Rattle.dup_bundle.proofs.laws.schedule_law.Goals as goal

pub returns-clause-needs : goal.returns-clause-needs
returns-clause-needs c = λ e t s p q out. needs_stay e t s p q out

pub returns-clause-finest : goal.returns-clause-finest
returns-clause-finest c = λ e t s r sound is apart. finest_stays e t s r sound is apart

pub returns-clause-order : goal.returns-clause-order
returns-clause-order c = λ e t bundles order. ordered e t bundles (changed_paths e t) refl order
