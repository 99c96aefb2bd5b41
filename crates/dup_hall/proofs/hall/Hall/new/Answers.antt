use Rattle.std.proofs.Common.{rules}
use Rattle.dup_hall.proofs.Acting.{empty_sound, empty_stands}
use Rattle.dup_hall.proofs.hall.Hall.new.Goals as goal

pub returns-clause-sound : goal.returns-clause-sound
returns-clause-sound c = empty_sound c.in_ok-press.press c.new-nodes.result (search rules)

pub returns-clause-first : goal.returns-clause-first
returns-clause-first c = empty_stands c.in_ok-press.press c.new-nodes.result (search rules) (search rules)
