use Rattle.std.proofs.Common.{sym, subst, ◌∙◌}
use Rattle.std.specs.List.Sorted.{IsSorted}
use Rattle.std.proofs.lemmas.List.Filters.{dedup_is}
use Rattle.dup_names.specs.Order.{obj_cmp}
use Rattle.dup_names.proofs.ObjectOrder.{obj_tied}
use Rattle.dup_names.proofs.ObjectOrder.{obj_total}
use Rattle.dup_render.proofs.Sorting.{deduped_in_order}
use Rattle.dup_sets.proofs.Trees.{cmp_is, same_decides}
use Rattle.dup_build.proofs.node.objs_in_order.Goals as goal

pub returns : goal.returns
returns c =
    let sorted : IsSorted obj_cmp c.sort_unstable.new.self.items =
    subst (λ by. IsSorted by c.sort_unstable.new.self.items) cmp_is c.sort_unstable.ensures.sorted in
    dedup_is _ _ _ c.dedup.ensures.filtered
    ∙ sym (deduped_in_order obj_cmp obj_total obj_tied _ same_decides
    c.args.objs.items c.sort_unstable.new.self.items c.sort_unstable.ensures.permutation sorted)
