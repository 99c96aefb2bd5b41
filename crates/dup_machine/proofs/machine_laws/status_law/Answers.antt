use Rattle.dup_machine.proofs.machine_laws.status_law.Goals as goal
use Rattle.dup_machine.proofs.Pending.{pending_is_told}

pub returns : goal.returns
returns c = pending_is_told
