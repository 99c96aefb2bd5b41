use Rattle.std.proofs.Common.{◌≡◌, take}
use Rattle.std.specs.List.{filter}
use Rattle.dup_names.specs.Objects.{is_in}
use Rattle.dup_build.specs.Stocked.{level_in}
use Rattle.dup_build.proofs.stock.Stock.next_among.Given as goal

abbrev pub invariant-loop-obj : goal.invariant-loop-obj
invariant-loop-obj l = l.made.items ≡ filter (is_in (level_in l.self)) (take l.obj-index l.objs)
