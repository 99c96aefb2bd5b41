use Rattle.std.proofs.Common.{◌≡◌, take}
use Rattle.dup_records.proofs.rows.shared_texts.Given as goal

abbrev pub invariant-loop-text : goal.invariant-loop-text
invariant-loop-text l = l.made.items ≡ take l.text-index l.texts
