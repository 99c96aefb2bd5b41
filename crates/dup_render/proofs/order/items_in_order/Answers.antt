use Rattle.std.proofs.Common.{sym, subst, ◌∙◌}
use Rattle.std.specs.List.Sorted.{IsSorted}
use Rattle.std.proofs.lemmas.List.Filters.{dedup_is}
use Rattle.dup_names.specs.Order.{item_cmp}
use Rattle.dup_names.proofs.ItemOrder.{item_tied, item_total}
use Rattle.dup_render.proofs.DerivedOrders.{item_cmp_is, same_item_decides}
use Rattle.dup_render.proofs.Sorting.{deduped_in_order}
use Rattle.dup_render.proofs.order.items_in_order.Goals as goal

pub returns : goal.returns
returns c =
    let sorted : IsSorted item_cmp c.sort_unstable.new.self.items =
    subst (λ by. IsSorted by c.sort_unstable.new.self.items) item_cmp_is c.sort_unstable.ensures.sorted in
    dedup_is _ _ _ c.dedup.ensures.filtered
    ∙ sym (deduped_in_order item_cmp item_total item_tied _ same_item_decides
    c.args.items.items c.sort_unstable.new.self.items c.sort_unstable.ensures.permutation sorted)
