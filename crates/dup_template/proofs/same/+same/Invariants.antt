use Rattle.std.proofs.Common.{◌≡◌, drop}
use Rattle.dup_template.specs.SameBody.{same_body}
use Rattle.dup_template.proofs.same.+same.Given as goal

abbrev pub invariant-same_body-loop-i : goal.invariant-same_body-loop-i
invariant-same_body-loop-i l = same_body (drop l.i l.a) (drop l.i l.b) ≡ same_body l.a l.b
