use Rattle.std.proofs.Common.{sym, subst, ◌∙◌}
use Rattle.std.specs.List.Sorted.{IsSorted}
use Rattle.std.proofs.lemmas.List.Filters.{dedup_is}
use Rattle.dup_names.specs.Order.{text_cmp}
use Rattle.std.specs.Cmp.Lexicographic.{nat_list_cmp_total}
use Rattle.dup_render.proofs.DerivedOrders.{path_cmp_is, path_tied, same_path_decides}
use Rattle.dup_render.proofs.Sorting.{deduped_in_order}
use Rattle.dup_render.proofs.order.paths_in_order.Goals as goal

pub returns : goal.returns
returns c =
    let sorted : IsSorted text_cmp c.sort_unstable.new.self.items =
    subst (λ by. IsSorted by c.sort_unstable.new.self.items) path_cmp_is c.sort_unstable.ensures.sorted in
    dedup_is _ _ _ c.dedup.ensures.filtered
    ∙ sym (deduped_in_order text_cmp nat_list_cmp_total path_tied _ same_path_decides
    c.args.paths.items c.sort_unstable.new.self.items c.sort_unstable.ensures.permutation sorted)
