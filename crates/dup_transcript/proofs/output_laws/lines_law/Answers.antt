use Rattle.dup_transcript.proofs.WrittenLines.{lines_are_read, lines_are_found}
use Rattle.dup_transcript.proofs.output_laws.lines_law.Goals as goal

pub returns-clause-read : goal.returns-clause-read
returns-clause-read c = lines_are_read

pub returns-clause-found : goal.returns-clause-found
returns-clause-found c = lines_are_found
