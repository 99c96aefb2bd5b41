use Rattle.std.proofs.Common.{◌≡◌, ◌++◌, drop, map}
use Rattle.dup_build.proofs.reads.items_noted.Given as goal

abbrev pub invariant-loop-note : goal.invariant-loop-note
invariant-loop-note l = l.items.items ++ map (λ n. n.0) (drop l.note-index l.notes) ≡ map (λ n. n.0) l.notes
