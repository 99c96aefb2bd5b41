use Rattle.dup_model.proofs.content_laws.commits_law.Goals as goal
use Rattle.dup_model.proofs.Changes.{body_is_replaced, other_bodies_stay, other_kinds_stay, other_rows_stay, put_makes_the_row, named_fields_are_set, other_fields_stay, remove_takes_the_row}

pub returns-clause-kinds : goal.returns-clause-kinds
returns-clause-kinds c = other_kinds_stay

pub returns-clause-rows : goal.returns-clause-rows
returns-clause-rows c = other_rows_stay

pub returns-clause-put : goal.returns-clause-put
returns-clause-put c = put_makes_the_row

pub returns-clause-named : goal.returns-clause-named
returns-clause-named c = named_fields_are_set

pub returns-clause-unnamed : goal.returns-clause-unnamed
returns-clause-unnamed c = other_fields_stay

pub returns-clause-remove : goal.returns-clause-remove
returns-clause-remove c = remove_takes_the_row

pub returns-clause-body : goal.returns-clause-body
returns-clause-body c = body_is_replaced

pub returns-clause-bodies : goal.returns-clause-bodies
returns-clause-bodies c = other_bodies_stay
