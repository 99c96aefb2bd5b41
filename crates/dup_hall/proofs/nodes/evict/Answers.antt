use Rattle.std.proofs.Common.{ap, refl, sym}
use Rattle.std.specs.Prelude.{is_some}
use Rattle.dup_script.specs.Answers.{said_text}
use Rattle.dup_hall.proofs.Caches.{none_evicts, one_evicts}
use Rattle.dup_hall.proofs.nodes.evict.Goals as goal

pub returns-in-Some-clause-turns : goal.returns-in-Some-clause-turns
returns-in-Some-clause-turns c = λ log.
    let after = c.evict.new.self in
    let puts = (c.get_mut.follows.holds after).3 (ap is_some (sym c.in-Some.ensures.value)) in
    one_evicts log c.args.nodes.now (c.get_mut.follows.lender after) c.args.number (said_text c.evicted.result) c.in-Some.node.now after (sym c.in-Some.ensures.value) puts
    c.args.path.now c.evict.result c.evict.ensures.found c.evict.ensures.entries c.evicted.ensures

pub returns-in-None-clause-turns : goal.returns-in-None-clause-turns
returns-in-None-clause-turns c = λ log.
    none_evicts log c.args.nodes.now c.get_mut.follows.lender-at-none c.args.number _ (sym c.in-None.ensures.value)
    (ap (λ m. m.entries) c.get_mut.follows.holds-at-none) refl c.args.path.now
