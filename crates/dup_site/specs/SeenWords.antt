-- Words as slices of a line.
use Rattle.dup_names.specs.Words.{Word}
use Rattle.std.specs.Prelude.{ℕ, List, Option, Some, None, map}
use Rattle.std.specs.Borrow.{Bor}

abbrev pub seen : List (Bor (List ℕ)) → List Word
seen words = map (λ w. w.now) words

-- what was read, and the words behind it
abbrev pub seen_rest : {X : Type 0} → Option (X × Bor (List (Bor (List ℕ)))) → Option (X × List Word)
seen_rest None = None
seen_rest (Some x) = Some (x.0, seen x.1.now)
