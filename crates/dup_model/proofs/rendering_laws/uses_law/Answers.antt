use Rattle.dup_model.proofs.LooksFromParts.{looks_from_parts}
use Rattle.dup_model.proofs.rendering_laws.uses_law.Goals as goal
use Rattle.dup_model.proofs.Earlier.{uses_are_all, looks_show}
use Rattle.dup_model.proofs.JoinedLooks.{looks_joined}

pub returns-clause-uses : goal.returns-clause-uses
returns-clause-uses c = uses_are_all

pub returns-clause-looks : goal.returns-clause-looks
returns-clause-looks c = looks_show

pub returns-clause-joined : goal.returns-clause-joined
returns-clause-joined c = looks_joined

pub returns-clause-parts : goal.returns-clause-parts
returns-clause-parts c = looks_from_parts
