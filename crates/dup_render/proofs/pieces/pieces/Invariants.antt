use Rattle.std.proofs.Common.{◌≡◌, drop}
use Rattle.dup_model.specs.Skeletons.{pieces}
use Rattle.dup_render.specs.Pieces.{with_rest}
use Rattle.dup_render.proofs.pieces.pieces.Given as goal

abbrev pub invariant-loop-mark : goal.invariant-loop-mark
invariant-loop-mark l = pieces l.marks ≡ with_rest l.out.items l.loose.items (drop l.mark-index l.marks)
