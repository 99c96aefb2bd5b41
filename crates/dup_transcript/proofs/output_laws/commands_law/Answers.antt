use Rattle.dup_transcript.proofs.CommandTable.{each_is_read}
use Rattle.dup_transcript.proofs.OnlyTable.{only_the_table}
use Rattle.dup_transcript.proofs.TableRead.{others_are_bad}
use Rattle.dup_transcript.proofs.output_laws.commands_law.Goals as goal

pub returns-clause-each : goal.returns-clause-each
returns-clause-each c = each_is_read

pub returns-clause-others : goal.returns-clause-others
returns-clause-others c = only_the_table

pub returns-clause-bad : goal.returns-clause-bad
returns-clause-bad c = others_are_bad
