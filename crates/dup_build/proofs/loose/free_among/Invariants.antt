use Rattle.std.proofs.Common.{◌≡◌, [], take}
use Rattle.dup_model.specs.Touched.{without}
use Rattle.dup_build.specs.Loose.{is_embedded}
use Rattle.dup_build.proofs.loose.free_among.Given as goal

abbrev pub invariant-loop-obj : goal.invariant-loop-obj
invariant-loop-obj l = l.free.items ≡ without (is_embedded l.nodes []) (take l.obj-index l.loose)
