use Rattle.dup_machine.proofs.machine_laws.settle_law.Goals as goal
use Rattle.dup_machine.proofs.Settling.{settle_reports, settle_resumes}
use Rattle.dup_machine.proofs.NothingDone.{nothing_is_done}
use Rattle.dup_machine.proofs.Publishing.{publish_ends}
use Rattle.dup_machine.proofs.Ending.{settle_ends}

pub returns-clause-report : goal.returns-clause-report
returns-clause-report c = settle_reports

pub returns-clause-again : goal.returns-clause-again
returns-clause-again c = nothing_is_done

pub returns-clause-resumed : goal.returns-clause-resumed
returns-clause-resumed c = settle_resumes

pub returns-clause-publish : goal.returns-clause-publish
returns-clause-publish c = publish_ends

pub returns-clause-ends : goal.returns-clause-ends
returns-clause-ends c = settle_ends
