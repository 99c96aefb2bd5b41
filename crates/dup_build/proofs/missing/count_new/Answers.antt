use Rattle.std.proofs.Common.{◌≡◌, cond, Some, length, ap, ◌∙◌}
use Rattle.std.proofs.lemmas.Result.{on_ok_weaker}
use Rattle.dup_names.proofs.ObjectOrder.{obj_itself}
use Rattle.dup_names.specs.Objects.{is_in}
use Rattle.dup_model.specs.Touched.{without}
use Rattle.dup_sets.specs.Entries.{at, objs}
use Rattle.dup_sets.proofs.Sets.{without_none}
use Rattle.dup_build.specs.Nodes.{below, children_of}
use Rattle.dup_build.proofs.missing.count_new.Goals as goal

pub returns-clause-new : goal.returns-clause-new
returns-clause-new c =
    let count : c.lacking-count.result ≡ length (without (is_in (objs c.args.looks.now)) c.args.node.now.children) =
    c.lacking-count.ensures
    ∙ (λ i. length (without (is_in (without (is_in (c.new-none.ensures i)) (objs c.args.looks.now))) (c.items.ensures i)))
    ∙ ap (λ os. length (without (is_in os) c.args.node.now.children)) (without_none (objs c.args.looks.now)) in
    on_ok_weaker c.add.result (λ each. each c.args.obj.now
    ∙ ap (λ b. cond b (Some c.lacking-count.result) (at c.count_missing.new.missing c.args.obj.now)) (obj_itself c.args.obj.now) ∙ ap Some count) c.add.ensures.at

pub returns-clause-found : goal.returns-clause-found
returns-clause-found c =
    on_ok_weaker c.add.result (λ each x inside apart. each x
    ∙ ap (λ b. cond b (Some c.lacking-count.result) (at c.count_missing.new.missing x)) apart
    ∙ c.in_ok-count_missing.ensures.counted x inside
    ∙ (λ i. Some (length (without (is_in (without (is_in (c.new-none.ensures i)) (objs c.args.looks.now))) (below c.args.nodes.now (c.new-none.ensures i) x))))
    ∙ ap (λ os. Some (length (without (is_in os) (children_of (at c.args.nodes.now x))))) (without_none (objs c.args.looks.now))) c.add.ensures.at
