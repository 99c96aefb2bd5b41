-- What was appended last.
use Rattle.std.specs.Prelude.{List, [], ◌∷◌}
use Rattle.dup_live.specs.declared.shown.State.{State}

abbrev pub last_state : State → List State → State
last_state s [] = s
last_state s (next ∷ rest) = last_state next rest
