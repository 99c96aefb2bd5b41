use Rattle.std.proofs.Common.{cond, sym, ap, subst, ◌∙◌, take}
use Rattle.std.specs.List.{fold}
use Rattle.std.proofs.lemmas.List.{take_all}
use Rattle.std.proofs.lemmas.List.Sums.{fold_more}
use Rattle.dup_names.specs.Objects.{is_in}
use Rattle.dup_machine.proofs.InOrder.{IsOrdered, sorted_stays}
use Rattle.dup_graph.specs.Graph.{has_child, parents}
use Rattle.dup_graph.proofs.Readers.{rising_where}
use Rattle.dup_sets.specs.Entries.{at}
use Rattle.dup_build.specs.Missing.{less}
use Rattle.dup_build.proofs.missing.lower_counted.Goals as goal

pub lower_each-requires : goal.lower_each-requires
lower_each-requires g c = subst IsOrdered (sym c.parents.ensures.objects) (sorted_stays (parents c.args.graph.now c.obj-item.result) (rising_where (has_child c.obj-item.result) c.args.graph.now))

pub loop-obj-preserved : goal.loop-obj-preserved
loop-obj-preserved g c = λ x.
    c.lower_each.ensures x
    ∙ ap (λ os. cond (is_in os x) (less (at c.loop-obj.missing x)) (at c.loop-obj.missing x)) c.parents.ensures.objects
    ∙ ap (λ n. cond (is_in (parents c.args.graph.now c.obj-item.result) x) (less n) n) (c.loop-obj.invariant x)
    ∙ ap (λ o. cond (is_in (parents c.args.graph.now o) x) (less (fold (λ n o. cond (is_in (parents c.args.graph.now o) x) (less n) n) (at c.args.missing.now x) (take c.loop-obj.obj-index c.args.level.now))) (fold (λ n o. cond (is_in (parents c.args.graph.now o) x) (less n) n) (at c.args.missing.now x) (take c.loop-obj.obj-index c.args.level.now))) c.obj-item.is
    ∙ sym (fold_more (λ n o. cond (is_in (parents c.args.graph.now o) x) (less n) n) (at c.args.missing.now x) c.args.level.now c.loop-obj.obj-index c.obj-item.result c.loop-obj-test.true)

pub returns : goal.returns
returns g c = λ x.
    c.loop-obj.invariant x
    ∙ ap (λ l. fold (λ n o. cond (is_in (parents c.args.graph.now o) x) (less n) n) (at c.args.missing.now x) l) (take_all c.loop-obj.obj-index c.args.level.now c.loop-obj-test.false)
