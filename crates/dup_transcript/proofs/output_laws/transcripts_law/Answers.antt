use Rattle.dup_transcript.proofs.Transcripts.{other_tasks_have_one, transcripts_are_one, transcripts_exist, transcripts_tell_kept}
use Rattle.dup_transcript.proofs.output_laws.transcripts_law.Goals as goal

pub returns-clause-exist : goal.returns-clause-exist
returns-clause-exist c = transcripts_exist

pub returns-clause-one : goal.returns-clause-one
returns-clause-one c = transcripts_are_one

pub returns-clause-told : goal.returns-clause-told
returns-clause-told c = transcripts_tell_kept

pub returns-clause-others : goal.returns-clause-others
returns-clause-others c = other_tasks_have_one
