use Rattle.dup_model.proofs.Columns.{each_embeds, each_goes, each_reads}
use Rattle.dup_model.proofs.rendering_laws.columns_law.Goals as goal

pub returns-clause-reads : goal.returns-clause-reads
returns-clause-reads c = each_reads

pub returns-clause-embeds : goal.returns-clause-embeds
returns-clause-embeds c = each_embeds

pub returns-clause-goes : goal.returns-clause-goes
returns-clause-goes c = each_goes
