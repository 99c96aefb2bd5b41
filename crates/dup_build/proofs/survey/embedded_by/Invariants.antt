use Rattle.std.proofs.Common.{◌≡◌, take}
use Rattle.std.specs.List.{flat_map}
use Rattle.dup_sets.specs.Entries.{at}
use Rattle.dup_build.specs.Nodes.{children_of}
use Rattle.dup_build.proofs.survey.embedded_by.Given as goal

abbrev pub invariant-loop-obj : goal.invariant-loop-obj
invariant-loop-obj l = l.made.items ≡ flat_map (λ p. children_of (at l.nodes p)) (take l.obj-index l.objs)
