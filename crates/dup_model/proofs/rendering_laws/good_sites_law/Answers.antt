use Rattle.dup_model.proofs.rendering_laws.good_sites_law.Goals as goal
use Rattle.dup_model.proofs.GoodSites.{good_embeds_earlier, good_jobs_fit}
use Rattle.dup_model.proofs.GoodVersions.{good_histories, good_versions}

pub returns-clause-earlier : goal.returns-clause-earlier
returns-clause-earlier c = good_embeds_earlier

pub returns-clause-jobs : goal.returns-clause-jobs
returns-clause-jobs c = good_jobs_fit

pub returns-clause-versions : goal.returns-clause-versions
returns-clause-versions c = good_versions

pub returns-clause-histories : goal.returns-clause-histories
returns-clause-histories c = good_histories
