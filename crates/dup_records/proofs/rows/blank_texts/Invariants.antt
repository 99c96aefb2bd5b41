use Rattle.std.proofs.Common.{◌≡◌, take}
use Rattle.dup_model.specs.Commits.{blank}
use Rattle.dup_records.proofs.rows.blank_texts.Given as goal

abbrev pub invariant-loop-name : goal.invariant-loop-name
invariant-loop-name l = l.made.items ≡ blank (take l._name-index l.names)
