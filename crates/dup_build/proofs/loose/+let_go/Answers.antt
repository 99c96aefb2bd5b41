use Rattle.std.proofs.Common.{◌≡◌, ◌<◌, ◌||◌, true, false, sym, ap, ◌∙◌, ◌∷◌, [], take, subst, arith}
use Rattle.std.proofs.lemmas.List.{take_all}
use Rattle.dup_names.specs.Objects.{is_in}
use Rattle.dup_model.specs.Touched.{without}
use Rattle.dup_sets.specs.Entries.{at, objs}
use Rattle.dup_build.specs.Loose.{is_held, shown_by, LetGo}
use Rattle.dup_build.specs.Nodes.{children_of}
use Rattle.dup_sets.proofs.Sets.{item_in, taken_push}
use Rattle.dup_build.proofs.Holding.{let_then, let_down}
use Rattle.dup_build.proofs.loose.+let_go.Goals as goal

pub let_go-requires : goal.let_go-requires
let_go-requires t c =
    let inside : is_in (children_of (at c.args.nodes.now c.args.obj.now)) c.child-item.result ≡ true =
    ap (λ l. is_in l c.child-item.result) (sym c.node_children-children.ensures) ∙ item_in c.node_children-children.result.now c.loop-child.child-index c.child-item.result c.loop-child-test.true c.child-item.is in
    let lower : c.child-item.result.template < c.args.obj.now.template = c.requires.earlier c.args.obj.now c.child-item.result inside in
    (omega (arith, lower, c.decreases), (c.requires.earlier, c.requires.children))

pub loop-child-preserved : goal.loop-child-preserved
loop-child-preserved t c =
    subst (λ l. LetGo (shown_by c.args.pages.now) c.args.nodes.now l c.add.new.self c.let_go.new.gone)
    (sym (taken_push c.node_children-children.result.now c.loop-child.child-index c.child-item.result c.loop-child-test.true c.child-item.is))
    (let_then c.args.nodes.now (shown_by c.args.pages.now) (take c.loop-child.child-index c.node_children-children.result.now) (c.child-item.result ∷ [])
    c.add.new.self c.loop-child.gone c.let_go.new.gone c.loop-child.invariant c.in_ok-let_go.ensures)

pub returns : goal.returns
returns t c =
    let all : take c.loop-child.child-index c.node_children-children.result.now ≡ children_of (at c.args.nodes.now c.args.obj.now) =
    take_all c.loop-child.child-index c.node_children-children.result.now c.loop-child-test.false ∙ c.node_children-children.ensures in
    let stays : is_in (without (is_in c.args.gone.now) (objs c.args.nodes.now)) c.args.obj.now ≡ true = sym c.stays.ensures ∙ c.if-not-stays.false in
    let free : is_held (shown_by c.args.pages.now) c.args.nodes.now c.args.gone.now c.args.obj.now ≡ false =
    (λ i. sym c.shows.ensures i || sym c.is_embedded.ensures i) ∙ (λ i. c.if-shows.false i || c.is_embedded.result) ∙ c.if-is_embedded.false in
    let_down c.args.nodes.now (shown_by c.args.pages.now) c.args.obj.now c.args.gone.now c.loop-child.gone stays free
    (subst (λ l. LetGo (shown_by c.args.pages.now) c.args.nodes.now (children_of (at c.args.nodes.now c.args.obj.now)) l c.loop-child.gone) c.in_ok-add.ensures.ok
    (subst (λ l. LetGo (shown_by c.args.pages.now) c.args.nodes.now l c.add.new.self c.loop-child.gone) all c.loop-child.invariant))
