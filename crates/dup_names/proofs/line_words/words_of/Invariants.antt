use Rattle.std.proofs.Common.{◌≡◌, ◌++◌, map, length}
use Rattle.std.specs.Prelude.{false}
use Rattle.dup_names.specs.LineWords as words
use Rattle.dup_names.proofs.line_words.words_of.Given as goal

abbrev pub invariant-loop-rest : goal.invariant-loop-rest
invariant-loop-rest l =
    (map (λ w. w.now) l.found.items ++ words.line_words l.rest ≡ words.line_words l.line) × (words.starts_spaced l.rest ≡ false)

abbrev pub decreases-loop-rest : goal.decreases-loop-rest
decreases-loop-rest l = length l.rest
