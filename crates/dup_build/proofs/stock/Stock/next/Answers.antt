use Rattle.std.proofs.Common.{ap, ◌∙◌}
use Rattle.dup_machine.specs.Works.{next_of}
use Rattle.dup_build.specs.Stocked.{waiting_in}
use Rattle.dup_build.proofs.Notes.{next_waits}
use Rattle.dup_build.proofs.stock.Stock.next.Goals as goal

pub returns-clause-waits : goal.returns-clause-waits
returns-clause-waits c =
    next_waits c.args.last.now (waiting_in c.args.self.now) c.next.result
    (c.next.ensures ∙ ap (next_of c.args.last.now) (c.self.invariant.stock.waits ∙ ap waiting_in c.self.view_is))
