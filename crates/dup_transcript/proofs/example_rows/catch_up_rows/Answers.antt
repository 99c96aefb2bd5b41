use Rattle.dup_transcript.proofs.example_rows.catch_up_rows.Goals as goal
use Rattle.dup_transcript.proofs.CatchUpComputed.{catch_up_row}

pub returns : goal.returns
returns c = catch_up_row
