use Rattle.std.proofs.Common.{sym, ap, ◌∙◌}
use Rattle.std.specs.FinMap as fin
use Rattle.dup_names.specs.Order.{text_cmp}
use Rattle.dup_bundle.specs.Targets.{looks_by_path}
use Rattle.dup_edition.proofs.Shelves.{to_T}
use Rattle.dup_bundle.proofs.sorted.SortedTarget.pages.Goals as goal

pub returns : goal.returns
returns c =
    ap looks_by_path c.items.ensures
    ∙ sym (fin.entries-from_sorted text_cmp (looks_by_path c.self.inside.target.now.pages) (to_T _ c.self.invariant))
    ∙ ap (λ t. fin.entries t.pages) c.self.view_is
