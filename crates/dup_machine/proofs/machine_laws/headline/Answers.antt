use Rattle.dup_machine.proofs.machine_laws.headline.Goals as goal
use Rattle.dup_machine.proofs.Runs.{headline}

pub returns : goal.returns
returns c = headline
