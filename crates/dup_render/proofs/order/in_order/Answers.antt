use Rattle.std.proofs.Common.{rules, is_lt, sym, ◌∙◌}
use Rattle.std.proofs.lemmas.Fn.{always_returns_same}
use Rattle.std.proofs.lemmas.List.Filters.{dedup_is}
use Rattle.std.proofs.lemmas.List.Sorted.{ranks_by}
use Rattle.std.specs.Cmp.Lexicographic.{nat_list_eq_equiv}
use Rattle.std.specs.List.Sorted.{IsSorted}
use Rattle.dup_names.specs.Words.{same}
use Rattle.dup_model.specs.Here.{by_field}
use Rattle.dup_render.proofs.Sorting.{sorted_in_order}
use Rattle.dup_render.proofs.ByField.{by_field_total, by_field_tied, by_field_ties}
use Rattle.dup_render.proofs.order.in_order.Goals as goal

pub returns : goal.returns
returns c =
    let content = c.args.content.now in
    let cmp = by_field content c.args.kind c.args.field in
    let total = by_field_total content c.args.kind c.args.field in
    let sorted : IsSorted cmp c.sort_unstable_by.new.self.items =
    c.sort_unstable_by.ensures.sorted (λ a b. is_lt (cmp a b)) (ranks_by total (λ x. x)) (always_returns_same _ _ _ (λ a r f k. search rules)) in
    dedup_is _ _ _ c.dedup.ensures.filtered
    ∙ sym (sorted_in_order cmp total (by_field_tied content c.args.kind c.args.field) same nat_list_eq_equiv (by_field_ties content c.args.kind c.args.field)
    c.args.keys.items c.sort_unstable_by.new.self.items c.sort_unstable_by.ensures.permutation sorted)
