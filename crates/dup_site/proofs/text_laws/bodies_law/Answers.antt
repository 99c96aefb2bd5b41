use Rattle.dup_site.proofs.text_laws.bodies_law.Goals as goal
use Rattle.dup_site.proofs.BodiesInTexts.{bodies_are_canonical, bodies_stand_in_texts}
use Rattle.dup_site.proofs.BodyTexts.{said_again}

pub returns-clause-in_texts : goal.returns-clause-in_texts
returns-clause-in_texts c = bodies_stand_in_texts

pub returns-clause-canonical : goal.returns-clause-canonical
returns-clause-canonical c = bodies_are_canonical

pub returns-clause-again : goal.returns-clause-again
returns-clause-again c = said_again
