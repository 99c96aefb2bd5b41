use Rattle.std.proofs.Common.{length, ◌<◌, ◌≤◌, ◌+◌, map}
use Rattle.dup_names.specs.Lines.{text_lines}
use Rattle.dup_site.specs.Drafted.{keeping_of}
use Rattle.dup_site.specs.Spelling.{line_of, text_says}
use Rattle.dup_site.proofs.KeepsSaid.{Reading_on}
use Rattle.dup_site.proofs.reading.read_parts.Given as goal

abbrev pub invariant-loop-rest : goal.invariant-loop-rest
invariant-loop-rest l =
    Reading_on (text_says l.text) l.number (keeping_of l.keeping) (map line_of (text_lines l.rest))
    × (l.number + length l.rest ≤ 1 + length l.text)
    × (l.keeping.passed < l.number)

abbrev pub decreases-loop-rest : goal.decreases-loop-rest
decreases-loop-rest l = length l.rest
