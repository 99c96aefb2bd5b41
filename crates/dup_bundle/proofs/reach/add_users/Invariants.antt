use Rattle.std.proofs.Common.{◌≡◌, ◌+◌, ◌||◌, ◌&&◌, false, not, drop, length}
use Rattle.std.specs.List.{list_any}
use Rattle.dup_names.specs.Words.{Path}
use Rattle.dup_model.specs.Editions.{has}
use Rattle.dup_bundle.specs.Between.{needs_changed}
use Rattle.dup_bundle.specs.Hinted.{users_of, AreDone}
use Rattle.dup_bundle.proofs.Paths.{IsInOrder}
use Rattle.dup_bundle.proofs.reach.add_users.Given as goal

abbrev pub invariant-loop-shown : goal.invariant-loop-shown
invariant-loop-shown l =
    ((q : Path) → (has l.seen.keys q || list_any (λ x. has (users_of l.hints.users x.0) q) (drop l.shown-index l.uses) && needs_changed l.edition l.target l.changed l.path q)
    ≡ (has l.initial.seen.keys q || list_any (λ x. has (users_of l.hints.users x.0) q) l.uses && needs_changed l.edition l.target l.changed l.path q))
    × ((q : Path) → has l.due.items q ≡ (has l.initial.due.items q || has l.seen.keys q && not (has l.initial.seen.keys q)))
    × ((q : Path) → (has l.initial.seen.keys q && not (has l.seen.keys q)) ≡ false)
    × IsInOrder l.seen.keys
    × (length l.due.items + length l.initial.seen.keys ≡ length l.initial.due.items + length l.seen.keys)
    × AreDone l.hints l.done l.seen.keys
