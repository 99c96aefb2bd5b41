use Rattle.dup_transcript.proofs.example_rows.results_rows.Goals as goal
use Rattle.dup_transcript.proofs.Rows.{results_good, event_page_row, second_result_row, refusal_rows}

pub returns-clause-good : goal.returns-clause-good
returns-clause-good c = results_good

pub returns-clause-page : goal.returns-clause-page
returns-clause-page c = event_page_row

pub returns-clause-second : goal.returns-clause-second
returns-clause-second c = second_result_row

pub returns-clause-refusals : goal.returns-clause-refusals
returns-clause-refusals c = refusal_rows
