use Rattle.std.proofs.Common.{◌≡◌, ◌≤◌, length}
use Rattle.dup_names.specs.LineWords as words
use Rattle.dup_names.proofs.line_words.trimmed.Given as goal

abbrev pub invariant-loop-rest : goal.invariant-loop-rest
invariant-loop-rest l = (words.trimmed l.rest ≡ words.trimmed l.bytes) × (length l.rest ≤ length l.bytes)

abbrev pub decreases-loop-rest : goal.decreases-loop-rest
decreases-loop-rest l = length l.rest
