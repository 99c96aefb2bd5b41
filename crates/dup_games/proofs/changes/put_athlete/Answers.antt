use Rattle.std.proofs.Common.{append_assoc, refl}
use Rattle.dup_games.proofs.changes.put_athlete.Goals as goal

pub returns : goal.returns
returns c = simp (append_assoc, c.in_ok-put.ensures, c.in_ok-put_numbered-2.ensures, c.in_ok-put_numbered.ensures) refl
