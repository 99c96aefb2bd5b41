use Rattle.std.proofs.Common.{◌∙◌}
use Rattle.dup_chunks.proofs.Placed.{items_within, items_past}
use Rattle.dup_chunks.proofs.parts.items_of.Goals as goal

pub returns-then-number-chunks : goal.returns-then-number-chunks
returns-then-number-chunks g c =
    c.items.ensures ∙ (c.deref.ensures ∙ items_within (λ a. a.value) c.args.chunks.now c.args.number c.index-chunks-number.result c.if-number-chunks.true c.index-chunks-number.is)

pub returns-else-number-chunks : goal.returns-else-number-chunks
returns-else-number-chunks g c = items_past (λ a. a.value) c.args.chunks.now c.args.number c.if-number-chunks.false
