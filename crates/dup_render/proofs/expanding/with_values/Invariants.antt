use Rattle.std.proofs.Common.{◌≡◌, take, map}
use Rattle.dup_model.specs.Content.{value}
use Rattle.dup_render.specs.Lists.{AreRead}
use Rattle.dup_render.proofs.expanding.with_values.Given as goal

abbrev pub invariant-loop-item : goal.invariant-loop-item
invariant-loop-item l =
    (l.notes.items ≡ map (λ it. (it, value l.content it)) (take l.item-index l.items)) × AreRead l.content l.lists
