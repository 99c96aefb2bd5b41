use Rattle.std.proofs.Common.{subst, sym}
use Rattle.dup_cache.specs.Kept.{pages_of}
use Rattle.dup_cache.specs.Renewing.{ArePlaced}
use Rattle.dup_cache.proofs.Renewing.{due_placed}
use Rattle.dup_cache.proofs.catching.renew_changed.Goals as goal

pub renew-requires-clause-placed : goal.renew-requires-clause-placed
renew-requires-clause-placed c = subst ArePlaced (sym c.in_ok-renewals.ensures) (due_placed c.args.edition.now.log c.args.changes (pages_of c.args.entries.now.entries))
