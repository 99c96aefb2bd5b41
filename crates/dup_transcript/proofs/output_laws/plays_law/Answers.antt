use Rattle.dup_transcript.proofs.MachineAnswers.{commands_leave_ready, plays_are_one, plays_exist, plays_tell_kept, settles_leave_nothing, starts_ready}
use Rattle.dup_transcript.proofs.output_laws.plays_law.Goals as goal

pub returns-clause-exist : goal.returns-clause-exist
returns-clause-exist c = plays_exist

pub returns-clause-one : goal.returns-clause-one
returns-clause-one c = plays_are_one

pub returns-clause-told : goal.returns-clause-told
returns-clause-told c = plays_tell_kept

pub returns-clause-settled : goal.returns-clause-settled
returns-clause-settled c = settles_leave_nothing

pub returns-clause-starts : goal.returns-clause-starts
returns-clause-starts c = starts_ready

pub returns-clause-ready : goal.returns-clause-ready
returns-clause-ready c = commands_leave_ready
