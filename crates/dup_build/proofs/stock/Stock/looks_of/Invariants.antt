use Rattle.std.proofs.Common.{◌≡◌, map, take}
use Rattle.dup_model.specs.Looks.{look}
use Rattle.dup_build.proofs.stock.Stock.looks_of.Given as goal

abbrev pub invariant-loop-obj : goal.invariant-loop-obj
invariant-loop-obj l = map (λ s. s.value) l.made.items ≡ map (look l.self.content) (take l.obj-index l.objs)
