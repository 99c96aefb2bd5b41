use Rattle.std.proofs.Common.{◌≡◌, take}
use Rattle.dup_names.specs.Objects.{is_in}
use Rattle.dup_model.specs.Touched.{without}
use Rattle.dup_sets.specs.Entries.{objs}
use Rattle.dup_build.proofs.survey.outside_once.Given as goal

abbrev pub invariant-loop-obj : goal.invariant-loop-obj
invariant-loop-obj g l = l.out.items ≡ without (is_in (without (is_in l.dropped) (objs l.table))) (take l.obj-index l.found)
