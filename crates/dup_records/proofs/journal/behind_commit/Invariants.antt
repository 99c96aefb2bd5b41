use Rattle.std.proofs.Common.{◌≡◌, ◌+◌, drop}
use Rattle.std.specs.List.{sum_by}
use Rattle.dup_model.specs.Journal.{edit_bytes}
use Rattle.dup_records.proofs.journal.behind_commit.Given as goal

abbrev pub invariant-loop-change : goal.invariant-loop-change
invariant-loop-change l =
    l.fn.room + sum_by edit_bytes (drop l.change-index l.commit) ≡ l.room + sum_by edit_bytes l.commit
