use Rattle.std.proofs.Common.{sym, ◌∙◌}
use Rattle.dup_model.specs.Here.{row_at}
use Rattle.dup_model.specs.Marks.{body_marks}
use Rattle.dup_model.proofs.Equations.{marks-Each}
use Rattle.dup_render.proofs.EachTurns.{each_turns}
use Rattle.dup_render.proofs.statements.+statements.Goals as goal

pub put_statement-returns-in-Some-clause-marks : goal.put_statement-returns-in-Some-clause-marks
put_statement-returns-in-Some-clause-marks t c =
    let content = c.args.content.now in
    let here = row_at c.here.inside.kind c.here.inside.key in
    rw (
      ← c.here.view_is,
      c.in-Each.is,
      marks-Each content here c.in-Each.kind c.in-Each.by c.in-Each.order c.in-Each.body,
      each_turns content c.in-Each.kind c.in-Each.by c.here.inside.key c.in-Each.order (body_marks content c.in-Each.body) c.in-Some.rows (sym c.rows_of.ensures ∙ c.in-Some.is),
      ← c.items-in-Some.ensures,
    ) c.put_turns.ensures.marks
