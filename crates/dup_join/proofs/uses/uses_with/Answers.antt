use Rattle.std.proofs.Common.{◌≡◌, ◌∷◌, map, ◌∙◌}
use Rattle.std.specs.List.{flat_map}
use Rattle.dup_join.proofs.InOrder.{with_uses_in_order}
use Rattle.dup_join.proofs.uses.uses_with.Goals as goal

pub returns : goal.returns
returns c =
    c.in_ok-made-2.ensures ∙ c.in_ok-made.ensures
    ∙ with_uses_in_order ((c.args.obj.now, c.args.bytes.now) ∷ flat_map (λ look. look.uses) (map (λ p. p.value) c.args.parts.now))
