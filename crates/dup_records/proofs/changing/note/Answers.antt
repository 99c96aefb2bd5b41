use Rattle.std.proofs.Common.{◌≡◌, true, cond, subst}
use Rattle.std.specs.List.{list_any}
use Rattle.std.specs.List.Sorted.{IsStrictlySortedBy}
use Rattle.std.specs.Ordering.{eq_by_cmp}
use Rattle.dup_names.specs.declared.object.Item.{Item}
use Rattle.dup_names.proofs.ItemOrder.{item_cmp_is}
use Rattle.dup_records.proofs.Noted.{notes_one}
use Rattle.dup_records.proofs.changing.note.Goals as goal

pub returns : goal.returns
returns c =
    let xs = c.args.noted.now.keys in
    let ys = c.insert.new.self.keys in
    notes_one xs ys c.args.item
    (subst (λ cmp. IsStrictlySortedBy cmp ys) item_cmp_is c.in_ok-insert.ensures.ordered)
    (subst (λ cmp. (z : Item) → list_any (eq_by_cmp cmp z) ys ≡ cond (eq_by_cmp cmp c.args.item z) true (list_any (eq_by_cmp cmp z) xs)) item_cmp_is c.in_ok-insert.ensures.updates.0)
