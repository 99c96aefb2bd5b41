use Rattle.dup_live.proofs.Keeps.{admits}
use Rattle.dup_live.proofs.outlet.LiveOutlet.window.Goals as goal

pub reader-requires : goal.reader-requires
reader-requires g c = admits g.J.Naming.book g.J.Naming.site
