use Rattle.std.proofs.Common.{◌≡◌, ◌↔◌, true, sym, ◌∙◌, subst}
use Rattle.dup_names.specs.Objects.{is_in}
use Rattle.dup_build.specs.Nodes.{below, seen}
use Rattle.dup_machine.specs.Reached.{Reached, opened}
use Rattle.dup_build.specs.Stocked.{Stocked, is_met}
use Rattle.dup_build.proofs.Stocking.{children_earlier, reached_over}
use Rattle.dup_build.proofs.stock.Stock.news.Goals as goal

pub reach-requires : goal.reach-requires
reach-requires c = children_earlier c.self.inside.content c.self.inside.nodes c.self.invariant.stock.nodes_are c.site_known.ensures.earlier

pub returns-clause-unjoined : goal.returns-clause-unjoined
returns-clause-unjoined c = λ g.
    let listed : c.of-2.result ≡ c.in_ok-fresh.fresh = c.of-2.ensures ∙ c.in_ok-unjoined.ensures in
    subst (λ (s : Stocked). (is_in c.of-2.result g ≡ true) ↔ Reached (opened s.content s.done) (is_met s) c.args.node.now.children g) c.self.view_is
    (reached_over c.self.inside.content c.self.inside.nodes c.self.inside.looks c.self.inside.progress c.self.invariant.stock c.new-none.result c.new-none.ensures
    c.args.node.now.children (is_in c.of-2.result g ≡ true) g
    (subst (λ l. (is_in l g ≡ true) ↔ Reached (below c.self.inside.nodes c.new-none.result) (seen c.self.inside.looks c.new-none.result c.self.inside.progress.unjoined) c.args.node.now.children g) (sym listed)
    (subst (λ l. (is_in c.in_ok-fresh.fresh g ≡ true) ↔ Reached (below c.self.inside.nodes c.new-none.result) (seen c.self.inside.looks c.new-none.result c.self.inside.progress.unjoined) l g) c.items.ensures (c.in_ok-fresh.ensures g))))
