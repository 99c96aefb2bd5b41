use Rattle.std.proofs.Common.{◌≡◌, take}
use Rattle.dup_template.specs.BodyLines.{body_text, measure_of}
use Rattle.dup_template.proofs.measure.+measures.Given as goal

abbrev pub invariant-body_measure-loop-statement : goal.invariant-body_measure-loop-statement
invariant-body_measure-loop-statement l = l.found ≡ measure_of (body_text (take l.statement-index l.body))
