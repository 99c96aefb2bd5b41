use Rattle.std.proofs.Common.{◌≡◌, map, take}
use Rattle.dup_model.specs.Looks.{look}
use Rattle.dup_join.specs.Jobs.{look_of}
use Rattle.dup_build.proofs.levels.jobs.Given as goal

abbrev pub invariant-loop-obj : goal.invariant-loop-obj
invariant-loop-obj l = map look_of l.made.items ≡ map (look l.stock.content) (take l.obj-index l.level)
