use Rattle.dup_model.proofs.rendering_laws.shows_law.Goals as goal
use Rattle.dup_model.proofs.Shows.{each_is_shown}
use Rattle.dup_model.proofs.Earlier.{show_is_of_marks}

pub returns-clause-each : goal.returns-clause-each
returns-clause-each c = each_is_shown

pub returns-clause-marks : goal.returns-clause-marks
returns-clause-marks c = show_is_of_marks
