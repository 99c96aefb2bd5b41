use Rattle.std.proofs.Common.{append_assoc, refl}
use Rattle.dup_games.proofs.changes.put_new_event.Goals as goal

pub returns : goal.returns
returns c = simp (append_assoc, c.in_ok-put-2.ensures, c.in_ok-put_event.ensures, c.in_ok-put.ensures) refl
