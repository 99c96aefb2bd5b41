use Rattle.dup_transcript.proofs.example_rows.medal_rows.Goals as goal
use Rattle.dup_transcript.proofs.Rows.{medal_good}
use Rattle.dup_transcript.proofs.MedalRowsComputed.{shared_fragment}

pub returns-clause-good : goal.returns-clause-good
returns-clause-good c = medal_good

pub returns-clause-shared : goal.returns-clause-shared
returns-clause-shared c = shared_fragment
