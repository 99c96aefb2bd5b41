use Rattle.std.proofs.Common.{◌≡◌, true, take}
use Rattle.std.specs.FinMap.Entries.{is_sorted}
use Rattle.dup_names.specs.Order.{text_cmp}
use Rattle.dup_build.specs.Spare.{AreRenewed}
use Rattle.dup_build.specs.Targets.{looks_by_path}
use Rattle.dup_build.proofs.spare.renew.Given as goal

abbrev pub invariant-loop-path : goal.invariant-loop-path
invariant-loop-path l = record {
  rising : is_sorted text_cmp (looks_by_path l.pages) ≡ true;
  renewed : AreRenewed l.stock.content (take l.path-index l.paths) (looks_by_path l.initial.pages) (looks_by_path l.pages);
}
