use Rattle.std.proofs.lemmas.Bool.{false≢true}
use Rattle.dup_site.proofs.TextLines.{first_text}
use Rattle.dup_site.proofs.body.texts_of.Goals as goal

pub unreachable-requires : goal.unreachable-requires
unreachable-requires c =
    let text = (first_text _ _ _ c.cut_line.ensures.lines c.loop-rest.invariant.texts).0 in
    let some = c.in_ok-line.ensures.some.1 text in
    false≢true (rw c.in_default.is at some)
