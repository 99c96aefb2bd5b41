use Rattle.std.proofs.Common.{ap, subst, sym, ◌∙◌}
use Rattle.dup_model.specs.Caches.{catch_up}
use Rattle.dup_model.specs.Serving.{HoldsPagesOf}
use Rattle.dup_cache.proofs.Holding.{caught_up_holds, growing_holds}
use Rattle.dup_node.proofs.node.Node.deliver.Goals as goal

pub returns-clause-ok : goal.returns-clause-ok
returns-clause-ok g c =
    let log = g.W.Window.log c.refresh.new.self in
    let holds : HoldsPagesOf log c.args.self.now = growing_holds log (g.W.Window.log c.args.window.now) c.args.self.now c.refresh.ensures.grows c.requires in
    c.in_ok-_page.ensures.cache (subst (HoldsPagesOf log) (sym c.self.view_is) holds) ∙ ap (catch_up log) c.self.view_is

pub returns-clause-holds : goal.returns-clause-holds
returns-clause-holds g c =
    let log = g.W.Window.log c.refresh.new.self in
    let holds : HoldsPagesOf log c.self.inside.cache =
    subst (HoldsPagesOf log) (sym c.self.view_is) (growing_holds log (g.W.Window.log c.args.window.now) c.args.self.now c.refresh.ensures.grows c.requires) in
    subst (HoldsPagesOf log) (sym (c.in_ok-_page.ensures.cache holds)) (caught_up_holds log c.self.inside.cache holds)
