use Rattle.dup_model.proofs.rendering_laws.incremental_law.Goals as goal
use Rattle.dup_model.proofs.Incremental.{untouched_same, unaffected_same}
use Rattle.dup_model.proofs.JoinedLooks.{affected_upwards}

pub returns-clause-alone : goal.returns-clause-alone
returns-clause-alone c = untouched_same

pub returns-clause-looks : goal.returns-clause-looks
returns-clause-looks c = unaffected_same

pub returns-clause-upwards : goal.returns-clause-upwards
returns-clause-upwards c = affected_upwards
