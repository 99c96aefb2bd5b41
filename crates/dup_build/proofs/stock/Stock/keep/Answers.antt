use Rattle.std.proofs.Common.{◌≡◌, sym, ap, ◌∙◌, subst}
use Rattle.dup_model.specs.Expansions.{Expansion}
use Rattle.dup_build.specs.Nodes.{IsNode}
use Rattle.dup_build.proofs.stock.Stock.keep.Goals as goal

pub put_in-requires-clause-node : goal.put_in-requires-clause-node
put_in-requires-clause-node c =
    let one : c.args.node.expanded.value.obj ≡ c.obj.result.now = ap (λ (e : Expansion). e.obj) (sym c.deref.ensures) ∙ sym c.obj.ensures in
    subst (λ o. IsNode c.args.self.now.content o c.args.node) one c.requires.node
