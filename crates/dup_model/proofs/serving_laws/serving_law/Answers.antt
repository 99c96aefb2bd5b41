use Rattle.dup_model.proofs.serving_laws.serving_law.Goals as goal
use Rattle.dup_model.proofs.Caching.{good_logs_place, catching_up_holds, answers_are_true, evicting_holds}

pub returns-clause-placed : goal.returns-clause-placed
returns-clause-placed c = good_logs_place

pub returns-clause-catch_up : goal.returns-clause-catch_up
returns-clause-catch_up c = catching_up_holds

pub returns-clause-answers : goal.returns-clause-answers
returns-clause-answers c = answers_are_true

pub returns-clause-evict : goal.returns-clause-evict
returns-clause-evict c = evicting_holds
