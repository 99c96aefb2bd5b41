use Rattle.std.proofs.Common.{◌≡◌, take}
use Rattle.dup_template.specs.Frame.{heads_of}
use Rattle.dup_template.proofs.site.same_heads.Given as goal

abbrev pub invariant-loop-i : goal.invariant-loop-i
invariant-loop-i l = heads_of (take l.i l.a) ≡ heads_of (take l.i l.b)
