use Rattle.std.proofs.Common.{◌≡◌, take}
use Rattle.std.specs.FinMap as fin
use Rattle.std.specs.List.Sorted.{IsStrictlySortedBy}
use Rattle.dup_names.specs.Order.{text_cmp}
use Rattle.dup_names.specs.Words.{Path}
use Rattle.dup_model.specs.Editions.{has}
use Rattle.dup_build.specs.Spare.{is_of_one}
use Rattle.dup_build.specs.Targets.{looks_by_path}
use Rattle.dup_build.proofs.spare.paths_of.Given as goal

abbrev pub invariant-loop-obj : goal.invariant-loop-obj
invariant-loop-obj l = record {
  told : (p : Path) → has l.paths.keys p ≡ is_of_one (take l.obj-index l.objs) (fin.find text_cmp p (looks_by_path l.pages));
  order : IsStrictlySortedBy text_cmp l.paths.keys;
}
