use Rattle.dup_live.proofs.Fronts.{prefix_self}
use Rattle.dup_live.proofs.Keeps.{turns}
use Rattle.dup_live.proofs.eye.looked.Goals as goal

pub enter_as-requires : goal.enter_as-requires
enter_as-requires g c x = turns g.J.Naming.book g.J.Naming.site _ _ x x (prefix_self x.edition.log) (λ h. h) (λ h. h)
