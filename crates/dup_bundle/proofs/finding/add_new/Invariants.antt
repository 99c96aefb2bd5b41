use Rattle.std.proofs.Common.{◌≡◌, ◌+◌, ◌≤◌, length}
use Rattle.dup_model.specs.Editions.{has}
use Rattle.dup_bundle.specs.Waiting.{Adds}
use Rattle.dup_bundle.proofs.Paths.{IsInOrder}
use Rattle.dup_bundle.proofs.finding.add_new.Given as goal

abbrev pub invariant-loop-path : goal.invariant-loop-path
invariant-loop-path l =
    Adds (has l.found) l.initial.seen.keys l.seen.keys
    × Adds (has l.found) l.initial.due.items l.due.items
    × IsInOrder l.seen.keys
    × (length l.due.items + length l.initial.seen.keys ≡ length l.initial.due.items + length l.seen.keys)
    × (length l.initial.seen.keys ≤ length l.seen.keys)
