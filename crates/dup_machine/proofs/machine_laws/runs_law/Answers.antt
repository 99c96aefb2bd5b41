use Rattle.dup_machine.proofs.machine_laws.runs_law.Goals as goal
use Rattle.dup_machine.proofs.Runs.{presses_are_timely, each_answered, log_grows}

pub returns-clause-replies : goal.returns-clause-replies
returns-clause-replies c = each_answered

pub returns-clause-log : goal.returns-clause-log
returns-clause-log c = log_grows

pub returns-clause-timely : goal.returns-clause-timely
returns-clause-timely c = presses_are_timely
