use Rattle.dup_records.proofs.content.Content.agrees_by.Goals as goal

pub returns-in-Group : goal.returns-in-Group
returns-in-Group g c = rw (c.in-Group.is, ← c.rows-in-Group.ensures.value, ← c.from.ensures) c.are_group.ensures
