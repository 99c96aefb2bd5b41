use Rattle.std.proofs.Common.{◌≡◌, ◌<◌, ℕ, length}
use Rattle.std.specs.Prelude.{slice_get}
use Rattle.dup_records.specs.Pairs.{IsMoved, pairs_at}
use Rattle.dup_records.proofs.index.all_moved.Given as goal

abbrev pub invariant-loop-field : goal.invariant-loop-field
invariant-loop-field l = record {
  long : length l.made.items ≡ l.field;
  each : (f : ℕ) → f < l.field → IsMoved (pairs_at l.indexes f) (pairs_at l.made.items f) l.key (slice_get l.new f);
}
