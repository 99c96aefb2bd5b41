use Rattle.std.proofs.Common.{◌≡◌, drop, map}
use Rattle.std.specs.List.{flat_map}
use Rattle.dup_join.specs.Uses.{with_uses}
use Rattle.dup_join.proofs.uses.put_parts.Given as goal

abbrev pub invariant-loop-part : goal.invariant-loop-part
invariant-loop-part l = with_uses l.made.entries (flat_map (λ look. look.uses) (map (λ p. p.value) (drop l.part-index l.parts)))
    ≡ with_uses l.initial.made.entries (flat_map (λ look. look.uses) (map (λ p. p.value) l.parts))
