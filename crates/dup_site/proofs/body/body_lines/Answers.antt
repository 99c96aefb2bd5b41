use Rattle.std.proofs.Common.{◌∙◌, ap}
use Rattle.dup_site.specs.SaidBody as said
use Rattle.dup_site.proofs.BodyTexts.{body_texts, said_again, texts_fit}
use Rattle.dup_site.proofs.body.body_lines.Goals as goal

pub texts_of-requires : goal.texts_of-requires
texts_of-requires c =
    rw c.deref.ensures.value
    (texts_fit c.args.body.now c.put_body.new.out.items
    (rw (c.new-text.ensures.items, c.items.ensures) at c.in_ok-put_body.ensures.text) (rw c.items.ensures at c.in_ok-put_body.ensures.spelled) c.requires.fits)

pub returns-clause-lines : goal.returns-clause-lines
returns-clause-lines c =
    c.in_ok-lines.ensures
    ∙ rw c.deref.ensures.value
    (body_texts c.args.body.now c.put_body.new.out.items
    (rw (c.new-text.ensures.items, c.items.ensures) at c.in_ok-put_body.ensures.text) (rw c.items.ensures at c.in_ok-put_body.ensures.spelled))

pub returns-clause-again : goal.returns-clause-again
returns-clause-again c =
    ap said.body_said (returns-clause-lines c) ∙ said_again c.args.body.now (rw c.items.ensures at c.in_ok-put_body.ensures.spelled)
