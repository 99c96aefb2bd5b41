use Rattle.dup_transcript.proofs.ScriptRowsComputed.{script_row}
use Rattle.dup_transcript.proofs.example_rows.script_rows.Goals as goal

pub returns : goal.returns
returns c = script_row
