use Rattle.std.proofs.Common.{◌≤◌, ◌+◌, ap, subst, arith, length, List}
use mathlib.Core.List.{IsPrefix}
use Rattle.dup_live.specs.declared.deed.Deed.{Deed}
use Rattle.dup_live.proofs.Telling.{reached}
use Rattle.dup_live.proofs.book.Front.is_reached.Goals as goal

pub returns : goal.returns
returns c near_by =
    let both = c.learn.new.self.log in
    let this : IsPrefix c.self.inside.seen.log both = subst (λ (l : List Deed). IsPrefix l both) (ap (λ s. s.log) c.again-both.ensures) c.learn.ensures.2 in
    let near = c.is_near.ensures near_by in
    let le : length c.self.inside.seen.log ≤ length c.other.inside.seen.log + 1 = omega (arith, near, c.self.invariant, c.other.invariant) in
    rw (← c.self.view_is, ← c.other.view_is) (reached c.self.inside.seen.log c.other.inside.seen.log both this c.learn.ensures.3 le)
