use Rattle.std.proofs.Common.{◌≡◌, ◌++◌, map, take}
use Rattle.dup_build.proofs.turning.add_paths.Given as goal

abbrev pub invariant-loop-page : goal.invariant-loop-page
invariant-loop-page l = l.paths.items ≡ l.initial.paths.items ++ map (λ p. p.0) (take l.page-index l.pages)
