use Rattle.std.proofs.Common.{◌≡◌, ◌+◌, ◌-◌, ◌≤◌, drop, length, take}
use Rattle.dup_model.specs.Pages.{page_looks}
use Rattle.dup_build.specs.Paths.{looks_shown}
use Rattle.dup_build.specs.Targets.{looks_by_path}
use Rattle.dup_build.proofs.Touching.{Walked}
use Rattle.dup_build.proofs.turning.turn_pages.Given as goal

abbrev pub invariant-loop-last_at : goal.invariant-loop-last_at
invariant-loop-last_at l = record {
  in_last : l.last_at ≤ length l.last;
  in_new : l.at ≤ length l.pages;
  made : looks_by_path l.turned.pages.items ≡ looks_shown l.stock.content (take l.at l.pages);
  so_far : Walked l.once l.turned.touched.items (looks_by_path l.last) (page_looks l.stock.content) (looks_by_path (drop l.last_at l.last)) (looks_shown l.stock.content (drop l.at l.pages));
}

abbrev pub decreases-loop-last_at : goal.decreases-loop-last_at
decreases-loop-last_at l = (length l.last - l.last_at) + (length l.pages - l.at)
