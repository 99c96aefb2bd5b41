use Rattle.std.proofs.Common.{◌≡◌, ◌+◌, [], vec_len, All}
use Rattle.dup_live.specs.Windows.{new_pane}
use Rattle.dup_live.proofs.places.all_windows.Given as goal

abbrev pub invariant-loop-i : goal.invariant-loop-i
invariant-loop-i g l =
    (vec_len l.all + 1 ≡ l._i) × All (λ w. w ≡ new_pane []) l.all.items × (g.P.Places.faults l.places ≡ g.P.Places.faults l.fn.places)
