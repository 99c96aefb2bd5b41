use Rattle.std.proofs.Common.{◌≡◌, ◌++◌, map, take}
use Rattle.dup_build.specs.Paths.{looks_shown}
use Rattle.dup_build.specs.Targets.{looks_by_path}
use Rattle.dup_build.proofs.turning.add_new.Given as goal

abbrev pub invariant-loop-page : goal.invariant-loop-page
invariant-loop-page l = record {
  pages : looks_by_path l.turned.pages.items ≡ looks_by_path l.initial.turned.pages.items ++ looks_shown l.stock.content (take l.page-index l.pages);
  touched : l.turned.touched.items ≡ l.initial.turned.touched.items ++ map (λ p. p.0) (take l.page-index l.pages);
}
