use Rattle.std.proofs.Common.{◌≡◌, ◌+◌, drop}
use Rattle.dup_model.specs.Commits.{after, refusal, refusal_from}
use Rattle.dup_records.proofs.applying.apply.Given as goal

abbrev pub invariant-loop-change : goal.invariant-loop-change
invariant-loop-change l = record {
  number : l.number ≡ l.change-index + 1;
  after : after l.made (drop l.change-index l.change-items) ≡ after l.fn.content l.fn.commit;
  refusal : refusal_from l.number l.made (drop l.change-index l.change-items) l.rows ≡ refusal l.fn.content l.fn.commit l.rows;
}
