use Rattle.std.proofs.Common.{◌≡◌, ◌++◌, drop, map}
use Rattle.std.specs.List.{flat_map}
use Rattle.dup_join.proofs.uses.links_with.Given as goal

abbrev pub invariant-loop-part : goal.invariant-loop-part
invariant-loop-part l = l.links.items ++ flat_map (λ look. look.links) (map (λ p. p.value) (drop l.part-index l.parts))
    ≡ l.own ++ flat_map (λ look. look.links) (map (λ p. p.value) l.parts)
