use Rattle.std.proofs.Common.{◌≡◌, ◌++◌, drop, map}
use Rattle.std.specs.List.{flat_map}
use Rattle.dup_model.specs.JoinedLooks as joined
use Rattle.dup_join.proofs.filling.fill.Given as goal

abbrev pub invariant-loop-piece : goal.invariant-loop-piece
invariant-loop-piece l = l.bytes.items ++ flat_map (joined.filled (joined.shown_in (map (λ p. p.value) l.parts))) (drop l.piece-index l.pieces)
    ≡ flat_map (joined.filled (joined.shown_in (map (λ p. p.value) l.parts))) l.pieces
