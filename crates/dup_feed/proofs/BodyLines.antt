-- The lines of a template's body, as the elements of an array.
use Rattle.std.proofs.Common.{List, ◌++◌}
use Rattle.std.specs.Prelude.{Option, option_map}
use Rattle.dup_names.specs.Words.{Word}

-- what was read, before what the others give
abbrev pub with_lines : List Word → Option (List Word) → Option (List Word)
with_lines made rest = option_map (λ more. made ++ more) rest
