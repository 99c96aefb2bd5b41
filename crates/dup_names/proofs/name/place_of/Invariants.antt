use Rattle.std.proofs.Common.{◌≡◌, ◌+◌, drop}
use Rattle.dup_names.specs.Words.{place}
use Rattle.dup_names.proofs.name.place_of.Given as goal

abbrev pub invariant-loop-index : goal.invariant-loop-index
invariant-loop-index l = l.index + place l.name (drop l.index l.names) ≡ place l.name l.names
