use Rattle.std.proofs.Common.{◌≡◌, ◌++◌, drop}
use Rattle.dup_template.proofs.with_body.put_parts.Given as goal

abbrev pub invariant-loop-part : goal.invariant-loop-part
invariant-loop-part l = l.out.items ++ drop l.part-index l.parts ≡ l.initial.out.items ++ l.parts
