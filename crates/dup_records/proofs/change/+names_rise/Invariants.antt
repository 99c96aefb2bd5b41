use Rattle.std.proofs.Common.{length}
use Rattle.dup_records.proofs.change.+names_rise.Given as goal

abbrev pub decreases-names_rise : goal.decreases-names_rise
decreases-names_rise l = length l.fields.now
