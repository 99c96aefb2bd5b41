use Rattle.dup_model.proofs.rendering_laws.jobs_law.Goals as goal
use Rattle.dup_model.proofs.FoundWords.{found_is_found}
use Rattle.dup_model.proofs.Jobs.{found_are_jobs}

pub returns-clause-found : goal.returns-clause-found
returns-clause-found c = found_is_found

pub returns-clause-jobs : goal.returns-clause-jobs
returns-clause-jobs c = found_are_jobs
