use Rattle.dup_transcript.proofs.Beginnings.{beginnings_go_on}
use Rattle.dup_transcript.proofs.output_laws.beginnings_law.Goals as goal

pub returns : goal.returns
returns c = beginnings_go_on
