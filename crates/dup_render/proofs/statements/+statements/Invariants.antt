use Rattle.std.proofs.Common.{◌≡◌, ◌++◌, take}
use Rattle.dup_model.specs.Marks.{body_marks}
use Rattle.dup_model.specs.Turns.{bodies}
use Rattle.dup_render.specs.Lists.{AreRead}
use Rattle.dup_render.proofs.statements.+statements.Given as goal

abbrev pub invariant-put_body-loop-statement : goal.invariant-put_body-loop-statement
invariant-put_body-loop-statement l = (l.out.marks.items ≡ l.initial.out.marks.items ++ body_marks l.content (take l.statement-index l.body) l.here) × AreRead l.content l.out.lists

abbrev pub invariant-put_bodies-loop-key : goal.invariant-put_bodies-loop-key
invariant-put_bodies-loop-key l = (l.out.marks.items ≡ l.initial.out.marks.items ++ bodies l.kind (body_marks l.content l.body) (take l.key-index l.keys)) × AreRead l.content l.out.lists
