use Rattle.dup_transcript.proofs.ScriptRuns.{transcripts_are_runs}
use Rattle.dup_transcript.proofs.output_laws.runs_of_scripts_law.Goals as goal

pub returns : goal.returns
returns c = transcripts_are_runs
