use Rattle.std.proofs.lemmas.Option.{slice_get-get_or}
use Rattle.std.specs.Prelude.{Some}
use Rattle.std.proofs.Common.{sym, ap, ap₂, ◌∙◌, arith, map}
use Rattle.dup_template.specs.BodyLines.{each_text, if_text, joined, link_text, statement_text}
use Rattle.dup_template.proofs.BodyMeasure.{enclosed_measure, measure_taken, text_Each, text_If, text_Link}
use Rattle.dup_template.proofs.measure.+measures.Goals as goal

pub enclosed-returns : goal.enclosed-returns
enclosed-returns t c text is =
    rw (c.joined-2.ensures, c.joined.ensures, c.one.ensures, c.one-2.ensures, c.body_measure.ensures)
    (enclosed_measure c.args.first text (map statement_text c.args.body.now) (let fits = c.ranges.first.fits in omega (arith, fits)) is)

pub statement_measure-returns-in-If : goal.statement_measure-returns-in-If
statement_measure-returns-in-If t c =
    rw (c.in-If.is, text_If, ← c.items.ensures) (c.enclosed.ensures (if_text c.in-If.field) (sym c.named-in-If.ensures))

pub statement_measure-returns-in-Each : goal.statement_measure-returns-in-Each
statement_measure-returns-in-Each t c =
    rw (c.in-Each.is, text_Each, ← c.items-in-Each.ensures)
    (c.enclosed-in-Each.ensures (each_text c.in-Each.kind c.in-Each.by c.in-Each.order) (sym c.each.ensures))

pub statement_measure-returns-in-Link : goal.statement_measure-returns-in-Link
statement_measure-returns-in-Link t c =
    rw (c.in-Link.is, text_Link, ← c.items-in-Link.ensures)
    (c.enclosed-in-Link.ensures (link_text c.in-Link.template c.in-Link.via) (sym c.named-in-Link.ensures))

pub body_measure-loop-statement-preserved : goal.body_measure-loop-statement-preserved
body_measure-loop-statement-preserved t c =
    c.joined-found.ensures ∙ ap₂ joined c.loop-statement.invariant c.statement_measure.ensures
    ∙ measure_taken c.args.body.now c.loop-statement.statement-index c.statement-item.result
    (slice_get-get_or c.args.body.now c.loop-statement.statement-index c.statement-item.result c.loop-statement-test.true ∙ ap Some (sym c.statement-item.is))
