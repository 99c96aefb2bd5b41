use Rattle.std.proofs.Common.{sym, ap, subst, ◌∙◌}
use Rattle.std.specs.Cmp.Lexicographic.{nat_list_cmp_total}
use Rattle.std.specs.FinMap as fin
use Rattle.dup_names.specs.Order.{text_cmp}
use Rattle.dup_bundle.specs.Targets.{looks_by_path, IsByPath}
use Rattle.dup_edition.proofs.Places.{found_at, absent_gap}
use Rattle.dup_edition.proofs.Shelves.{same_path, to_T}
use Rattle.dup_bundle.proofs.sorted.SortedTarget.look.Goals as goal

pub returns-in-Ok : goal.returns-in-Ok
returns-in-Ok c =
    let sorted : IsByPath c.items-pages.result.now = subst IsByPath (sym c.items-pages.ensures) c.self.invariant in
    sym (found_at text_cmp nat_list_cmp_total same_path (λ page. (page.0, page.1.value)) c.args.path.now c.items-pages.result.now c.in-Ok.at c.index-pages-at.result sorted c.in-Ok.ensures.found)
    ∙ sym (fin.get-from_sorted text_cmp (looks_by_path c.items-pages.result.now) c.args.path.now (to_T _ sorted))
    ∙ ap (λ ys. fin.get (fin.from_sorted {R = text_cmp} (looks_by_path ys)) c.args.path.now) c.items-pages.ensures
    ∙ ap (λ t. fin.get t.pages c.args.path.now) c.self.view_is

pub returns-in-Err : goal.returns-in-Err
returns-in-Err c =
    let sorted : IsByPath c.items-pages.result.now = subst IsByPath (sym c.items-pages.ensures) c.self.invariant in
    sym (absent_gap text_cmp nat_list_cmp_total same_path (λ page. (page.0, page.1.value)) c.args.path.now c.items-pages.result.now c.in-Err.field-0 sorted c.in-Err.ensures.absent)
    ∙ sym (fin.get-from_sorted text_cmp (looks_by_path c.items-pages.result.now) c.args.path.now (to_T _ sorted))
    ∙ ap (λ ys. fin.get (fin.from_sorted {R = text_cmp} (looks_by_path ys)) c.args.path.now) c.items-pages.ensures
    ∙ ap (λ t. fin.get t.pages c.args.path.now) c.self.view_is
