use Rattle.std.proofs.Common.{refl}
use Rattle.std.specs.Prelude.{Some}
use Rattle.dup_hall.proofs.Acting.{status_acts}
use Rattle.dup_hall.proofs.hall.Hall.status.Goals as goal

pub returns : goal.returns
returns c = (
  Some c.status_said.result,
  c.in_ok-said_text.ensures.ok,
  status_acts c.args.self.now c.status-status.result _ c.status-status.ensures c.status_said.ensures,
  refl,
)
