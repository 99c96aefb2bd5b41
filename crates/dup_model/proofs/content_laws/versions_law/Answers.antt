use Rattle.dup_model.proofs.content_laws.versions_law.Goals as goal
use Rattle.dup_model.proofs.Histories.{content_frame, content_of}
use Rattle.dup_model.proofs.Tables.{versions_have_tables, versions_rise}

pub returns-clause-frame : goal.returns-clause-frame
returns-clause-frame c = content_frame

pub returns-clause-site : goal.returns-clause-site
returns-clause-site c = content_of

pub returns-clause-tables : goal.returns-clause-tables
returns-clause-tables c = versions_have_tables

pub returns-clause-rise : goal.returns-clause-rise
returns-clause-rise c = versions_rise
