use Rattle.dup_machine.proofs.machine_laws.found_law.Goals as goal
use Rattle.dup_machine.proofs.Growing.{found_is_reached, found_grows}

pub returns-clause-reached : goal.returns-clause-reached
returns-clause-reached c = found_is_reached

pub returns-clause-grows : goal.returns-clause-grows
returns-clause-grows c = found_grows
