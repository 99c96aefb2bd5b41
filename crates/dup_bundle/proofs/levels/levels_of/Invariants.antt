use Rattle.dup_bundle.specs.Between.{is_needed, AreChanged}
use Rattle.dup_bundle.specs.Waiting.{AreLevelled}
use Rattle.dup_bundle.proofs.levels.levels_of.Given as goal

abbrev pub invariant-loop-level : goal.invariant-loop-level
invariant-loop-level l =
    AreChanged l.edition l.target l.left
    × AreLevelled (is_needed l.edition l.target) l.changed l.left l.levels l.level
