use Rattle.dup_transcript.proofs.example_rows.next_rows.Goals as goal
use Rattle.dup_transcript.proofs.Rows.{chain_good}
use Rattle.dup_transcript.proofs.NextRowsComputed.{link_needs_page, linker_changes}

pub returns-clause-good : goal.returns-clause-good
returns-clause-good c = chain_good

pub returns-clause-needs : goal.returns-clause-needs
returns-clause-needs c = link_needs_page

pub returns-clause-vanishes : goal.returns-clause-vanishes
returns-clause-vanishes c = linker_changes
