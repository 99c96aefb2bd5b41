use Rattle.dup_machine.proofs.machine_laws.closed_law.Goals as goal
use Rattle.dup_machine.proofs.Closing.{closed_at_first, closed_once_done, closed_once_joined, closed_once_moved, closed_live, level_leaves}

pub returns-clause-first : goal.returns-clause-first
returns-clause-first c = closed_at_first

pub returns-clause-done : goal.returns-clause-done
returns-clause-done c = closed_once_done

pub returns-clause-joined : goal.returns-clause-joined
returns-clause-joined c = closed_once_joined

pub returns-clause-moved : goal.returns-clause-moved
returns-clause-moved c = closed_once_moved

pub returns-clause-live : goal.returns-clause-live
returns-clause-live c = closed_live

pub returns-clause-leaves : goal.returns-clause-leaves
returns-clause-leaves c = level_leaves
