use Rattle.std.proofs.Common.{◌++◌, List, length, map}
use Rattle.dup_names.specs.Words.{Path}
use Rattle.dup_bundle.specs.Between.{is_needed, AreChanged}
use Rattle.dup_bundle.specs.Schedule.{IsOrder}
use Rattle.dup_bundle.specs.Waiting.{AreLevels, AreWaiting}
use Rattle.dup_bundle.proofs.Paths.{IsInOrder}
use Rattle.dup_bundle.proofs.schedule.Schedule.between.Given as goal

abbrev pub invariant-loop-bundles : goal.invariant-loop-bundles
invariant-loop-bundles l =
    AreChanged l.edition l.target l.left
    × AreLevels (is_needed l.edition l.target) l.left l.ways.levels
    × IsInOrder l.queue.ready.keys
    × AreWaiting (is_needed l.edition l.target) l.left l.queue.ready.keys l.queue.waiting
    × ((later : List (List Path)) → IsOrder (is_needed l.edition l.target) l.left later → IsOrder (is_needed l.edition l.target) l.changed (map (λ b. b.keys) l.bundles.items ++ later))

abbrev pub decreases-loop-bundles : goal.decreases-loop-bundles
decreases-loop-bundles l = length l.left
