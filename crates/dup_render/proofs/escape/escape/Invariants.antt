use Rattle.std.proofs.Common.{◌≡◌, take}
use Rattle.dup_model.specs.Here.{escaped}
use Rattle.dup_render.proofs.escape.escape.Given as goal

abbrev pub invariant-loop-byte : goal.invariant-loop-byte
invariant-loop-byte l = l.out.items ≡ escaped (take l.byte-index l.text)
