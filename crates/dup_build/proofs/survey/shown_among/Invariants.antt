use Rattle.std.proofs.Common.{◌≡◌, take}
use Rattle.std.specs.List.{filter}
use Rattle.dup_names.specs.Objects.{is_in}
use Rattle.dup_build.specs.Loose.{shown_by}
use Rattle.dup_build.proofs.survey.shown_among.Given as goal

abbrev pub invariant-loop-obj : goal.invariant-loop-obj
invariant-loop-obj l = l.shown.items ≡ filter (is_in (shown_by l.pages)) (take l.obj-index l.among)
