use Rattle.std.proofs.Common.{sym, ap, subst, ◌∙◌}
use Rattle.std.specs.List.Sorted.{IsStrictlySortedBy}
use Rattle.dup_names.specs.Order.{obj_cmp}
use Rattle.dup_names.specs.Objects.{is_in}
use Rattle.dup_model.proofs.Earlier.{in_ordered}
use Rattle.dup_machine.proofs.InOrder.{sorted_stays}
use Rattle.dup_walk.specs.Affected.{IsAffected}
use Rattle.dup_build.proofs.hits.counted.Goals as goal

pub returns-clause-dropped : goal.returns-clause-dropped
returns-clause-dropped g c = λ o.
    ap (λ l. is_in l o) c.in_ok-dropped.ensures ∙ in_ordered c.deref.result.now o ∙ ap (λ l. is_in l o) c.deref.ensures.value ∙ c.in_ok-touched.ensures.objects o

pub returns-clause-stale : goal.returns-clause-stale
returns-clause-stale g c =
    subst (IsAffected c.args.graph.now c.args.changed.now)
    (sym (c.in_ok-stale.ensures ∙ sorted_stays c.deref-2.result.now (subst (IsStrictlySortedBy obj_cmp) (sym c.deref-2.ensures.value) c.in_ok-upward.ensures.affected.set.order) ∙ c.deref-2.ensures.value)) c.in_ok-upward.ensures.affected
