use Rattle.std.proofs.Common.{◌≡◌, ◌≤◌, ◌++◌, length, take, drop, sym, subst, ◌∙◌, ap}
use Rattle.dup_chunks.proofs.Placed.{edited_few, at_most}
use Rattle.dup_chunks.proofs.edits.spliced.Goals as goal

pub push_chunks-requires-clause-few : goal.push_chunks-requires-clause-few
push_chunks-requires-clause-few g c =
    let here = c.items_of.ensures in
    subst (λ l. length l ≤ 65) (sym c.in_ok-items.ensures)
    (edited_few c.items_of.result.now c.args.place.at c.args.skip c.args.item (subst (λ l. c.args.place.at ≤ length l) (sym here) c.requires.within)
    (subst (λ l. length l ≤ 64) (sym here) (at_most (λ a. a.value) c.args.chunks.now c.args.place.chunk c.requires.chunks)))
