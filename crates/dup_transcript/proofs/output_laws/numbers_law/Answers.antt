use Rattle.dup_transcript.proofs.Numbers.{numbers_are_decimal}
use Rattle.dup_transcript.proofs.output_laws.numbers_law.Goals as goal

pub returns : goal.returns
returns c = numbers_are_decimal
