use Rattle.std.proofs.Common.{append_assoc, refl}
use Rattle.dup_games.proofs.script.put_settled.Goals as goal

pub returns : goal.returns
returns c =
    simp (
      append_assoc,
      c.in_ok-put-2.ensures,
      c.in_ok-put_numbered-2.ensures,
      c.in_ok-put_numbered.ensures,
      c.in_ok-put.ensures,
    ) refl
