use Rattle.dup_model.proofs.rendering_laws.changes_law.Goals as goal
use Rattle.dup_model.proofs.ChangedItems.{changes_exist}
use Rattle.dup_model.proofs.Keyed.{versions_have_keys, reads_are_items, touched_by_changes}

pub returns-clause-exist : goal.returns-clause-exist
returns-clause-exist c = changes_exist

pub returns-clause-versions : goal.returns-clause-versions
returns-clause-versions c = versions_have_keys

pub returns-clause-items : goal.returns-clause-items
returns-clause-items c = reads_are_items

pub returns-clause-touched : goal.returns-clause-touched
returns-clause-touched c = touched_by_changes
