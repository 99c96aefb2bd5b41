use Rattle.std.proofs.Common.{◌≡◌, ◌+◌, drop}
use Rattle.dup_names.specs.Words.{place}
use Rattle.dup_template.specs.Good.{kind_names}
use Rattle.dup_template.proofs.numbers.kind_place.Given as goal

abbrev pub invariant-loop-index : goal.invariant-loop-index
invariant-loop-index l = l.index + place l.name (kind_names (drop l.index l.kinds)) ≡ place l.name (kind_names l.kinds)
