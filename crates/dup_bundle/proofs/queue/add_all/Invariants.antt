use Rattle.std.proofs.Common.{◌≡◌, ◌||◌, drop}
use Rattle.dup_names.specs.Words.{Path}
use Rattle.dup_model.specs.Editions.{has}
use Rattle.dup_bundle.proofs.Paths.{IsInOrder}
use Rattle.dup_bundle.proofs.queue.add_all.Given as goal

abbrev pub invariant-loop-path : goal.invariant-loop-path
invariant-loop-path l =
    ((q : Path) → (has l.ready.keys q || has (drop l.path-index l.paths) q) ≡ (has l.initial.ready.keys q || has l.paths q))
    × IsInOrder l.ready.keys
