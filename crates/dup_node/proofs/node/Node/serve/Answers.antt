use Rattle.std.proofs.Common.{ap, subst, sym, ◌∙◌}
use Rattle.std.specs.Prelude.{option_map}
use Rattle.dup_model.specs.Serving.{HoldsPagesOf}
use Rattle.dup_cache.proofs.Holding.{growing_holds}
use Rattle.dup_cache.specs.declared.how.How.TheVariants.{Hit}
use Rattle.dup_node.specs.Replies.{IsAnswered}
use Rattle.dup_node.specs.declared.reply.Reply.TheVariants.{Found}
use Rattle.dup_node.proofs.Serving.{fair, hit_answered, served}
use Rattle.dup_node.proofs.node.Node.serve.Goals as goal

pub returns-in-Some-clause-told : goal.returns-in-Some-clause-told
returns-in-Some-clause-told g c =
    let log = g.W.Window.log c.args.window.now in
    (fair log c.self.inside.cache c.args.pass.0 c.args.path.now (Found c.edition.result c.in-Some.page Hit) c.ready_page.new.cache (subst (HoldsPagesOf log) (sym c.self.view_is) c.requires)
    (hit_answered log c.self.inside.cache c.args.pass.0 c.args.path.now c.in-Some.page c.edition.result c.ready_page.new.cache
    (ap (option_map (λ p. p.value)) (sym c.in-Some.is) ∙ c.in_ok-page.ensures.page) c.in_ok-page.ensures.cache c.edition.ensures)).0

pub returns-in-Some-clause-holds : goal.returns-in-Some-clause-holds
returns-in-Some-clause-holds g c =
    let log = g.W.Window.log c.args.window.now in
    (fair log c.self.inside.cache c.args.pass.0 c.args.path.now (Found c.edition.result c.in-Some.page Hit) c.ready_page.new.cache (subst (HoldsPagesOf log) (sym c.self.view_is) c.requires)
    (hit_answered log c.self.inside.cache c.args.pass.0 c.args.path.now c.in-Some.page c.edition.result c.ready_page.new.cache
    (ap (option_map (λ p. p.value)) (sym c.in-Some.is) ∙ c.in_ok-page.ensures.page) c.in_ok-page.ensures.cache c.edition.ensures)).1

pub returns-clause-reply : goal.returns-clause-reply
returns-clause-reply g c =
    let log = g.W.Window.log c.refresh.new.self in
    let holds : HoldsPagesOf log c.self.inside.cache = growing_holds log (g.W.Window.log c.args.window.now) c.self.inside.cache c.refresh.ensures.grows (subst (HoldsPagesOf (g.W.Window.log c.args.window.now)) (sym c.self.view_is) c.requires) in
    subst (λ old. IsAnswered old log c.args.pass.0 c.args.path.now c.answered.result c.answered.new.cache) c.self.view_is
    (served log c.self.inside.cache c.ready_page.new.cache c.refresh.new.cache c.answered.new.cache c.args.pass.0 c.args.path.now c.in_ok-page.field-0 c.in_ok-page-2.page c.answered.result holds
    c.in_default.is c.in_ok-page.ensures.page c.in_ok-page.ensures.cache c.in_ok-page-2.ensures.cache c.in_ok-page-2.ensures.page c.answered.ensures)

pub returns-clause-told : goal.returns-clause-told
returns-clause-told g c =
    let log = g.W.Window.log c.refresh.new.self in
    let holds : HoldsPagesOf log c.self.inside.cache = growing_holds log (g.W.Window.log c.args.window.now) c.self.inside.cache c.refresh.ensures.grows (subst (HoldsPagesOf (g.W.Window.log c.args.window.now)) (sym c.self.view_is) c.requires) in
    (fair log c.self.inside.cache c.args.pass.0 c.args.path.now c.answered.result c.answered.new.cache holds
    (served log c.self.inside.cache c.ready_page.new.cache c.refresh.new.cache c.answered.new.cache c.args.pass.0 c.args.path.now c.in_ok-page.field-0 c.in_ok-page-2.page c.answered.result holds
    c.in_default.is c.in_ok-page.ensures.page c.in_ok-page.ensures.cache c.in_ok-page-2.ensures.cache c.in_ok-page-2.ensures.page c.answered.ensures)).0

pub returns-clause-holds : goal.returns-clause-holds
returns-clause-holds g c =
    let log = g.W.Window.log c.refresh.new.self in
    let holds : HoldsPagesOf log c.self.inside.cache = growing_holds log (g.W.Window.log c.args.window.now) c.self.inside.cache c.refresh.ensures.grows (subst (HoldsPagesOf (g.W.Window.log c.args.window.now)) (sym c.self.view_is) c.requires) in
    (fair log c.self.inside.cache c.args.pass.0 c.args.path.now c.answered.result c.answered.new.cache holds
    (served log c.self.inside.cache c.ready_page.new.cache c.refresh.new.cache c.answered.new.cache c.args.pass.0 c.args.path.now c.in_ok-page.field-0 c.in_ok-page-2.page c.answered.result holds
    c.in_default.is c.in_ok-page.ensures.page c.in_ok-page.ensures.cache c.in_ok-page-2.ensures.cache c.in_ok-page-2.ensures.page c.answered.ensures)).1
