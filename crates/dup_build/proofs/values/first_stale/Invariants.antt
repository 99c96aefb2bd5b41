use Rattle.std.proofs.Common.{◌≡◌, take, None}
use Rattle.dup_model.specs.Expansions.{stale}
use Rattle.dup_build.proofs.values.first_stale.Given as goal

abbrev pub invariant-loop-note : goal.invariant-loop-note
invariant-loop-note l = stale l.content (take l.note-index l.notes) ≡ None
