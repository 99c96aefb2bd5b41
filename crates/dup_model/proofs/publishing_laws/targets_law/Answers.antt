use Rattle.dup_model.proofs.publishing_laws.targets_law.Goals as goal
use Rattle.dup_model.proofs.Sound.{needed_changed}
use Rattle.dup_model.proofs.Targets.{target_sound}

pub returns-clause-sound : goal.returns-clause-sound
returns-clause-sound c = target_sound

pub returns-clause-needed : goal.returns-clause-needed
returns-clause-needed c = needed_changed
