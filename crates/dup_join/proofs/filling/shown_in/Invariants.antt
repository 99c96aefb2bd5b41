use Rattle.std.proofs.Common.{◌≡◌, drop, map}
use Rattle.dup_model.specs.JoinedLooks as joined
use Rattle.dup_join.proofs.filling.shown_in.Given as goal

abbrev pub invariant-loop-part : goal.invariant-loop-part
invariant-loop-part l = joined.shown_in (map (λ p. p.value) (drop l.part-index l.parts)) l.obj ≡ joined.shown_in (map (λ p. p.value) l.parts) l.obj
