use Rattle.dup_calls.proofs.Growing.{settled_log}
use Rattle.dup_calls.proofs.presses.settle.Goals as goal

pub returns : goal.returns
returns g c = settled_log c.args.press.now c.settle.new.self c.in_ok-summary.summary c.in_ok-summary.ensures.settled
