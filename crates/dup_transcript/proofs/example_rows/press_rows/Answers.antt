use Rattle.dup_transcript.proofs.example_rows.press_rows.Goals as goal
use Rattle.dup_transcript.proofs.PressRowsComputed.{events_good, press_row}

pub returns-clause-good : goal.returns-clause-good
returns-clause-good c = events_good

pub returns-clause-steps : goal.returns-clause-steps
returns-clause-steps c = press_row
