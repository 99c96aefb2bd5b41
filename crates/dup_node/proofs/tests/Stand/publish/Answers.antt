use Rattle.std.proofs.Common.{[], ◌∷◌, ap, sym}
use Rattle.dup_cache.proofs.Holding.{growing_holds}
use Rattle.dup_node.proofs.tests.Stand.publish.Goals as goal

pub invariant_of-self-2 : goal.invariant_of-self-2
invariant_of-self-2 c =
    growing_holds c.absorb.new.self.log c.self.inside.edition.log c.self.inside.node
    (c.in_ok-rec.rec.value ∷ [], sym (ap (λ e. e.log) c.in_ok-absorb.ensures.ok)) c.self.invariant
