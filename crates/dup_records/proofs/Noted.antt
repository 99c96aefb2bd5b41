-- Noting items one after the other.
use Rattle.std.proofs.Common.{◌≡◌, Bool, true, false, cond, ◌||◌, List, refl, sym, ap, ◌∙◌}
use Rattle.std.specs.List.Sorted.{IsStrictlySortedBy}
use Rattle.std.specs.Cmp.{eq_by_cmp_equiv}
use Rattle.std.specs.Ordering.{eq_by_cmp}
use Rattle.dup_names.specs.Order.{item_cmp}
use Rattle.dup_names.specs.declared.object.Item.{Item}
use Rattle.dup_names.proofs.ItemOrder.{item_total}
use Rattle.dup_records.specs.Moved.{Notes, has_item, one}

or_false : (b : Bool) → (b || false) ≡ b
or_false true = refl
or_false false = refl

or_assoc : (a b c : Bool) → ((a || b) || c) ≡ (a || (b || c))
or_assoc true b c = refl
or_assoc false b c = refl

pub notes_none : (xs : List Item) → Notes xs xs (λ it. false)
notes_none xs = record { order = λ h. h; each = λ it. sym (or_false (has_item xs it)) }

pub notes_more : (xs ys zs : List Item) (p q : Item → Bool) → Notes xs ys p → Notes ys zs q → Notes xs zs (λ it. p it || q it)
notes_more xs ys zs p q one two = record {
  order = λ h. two.order (one.order h);
  each = λ it. two.each it ∙ (ap (λ b. b || q it) (one.each it) ∙ or_assoc (has_item xs it) (p it) (q it));
}

pub notes_same : (xs ys : List Item) (p q : Item → Bool) → Notes xs ys p → ((it : Item) → p it ≡ q it) → Notes xs ys q
notes_same xs ys p q notes same = record { order = notes.order; each = λ it. notes.each it ∙ ap (λ b. has_item xs it || b) (same it) }

with_item : (b old : Bool) → cond b true old ≡ (old || b)
with_item true true = refl
with_item true false = refl
with_item false true = refl
with_item false false = refl

-- what an insertion says of the set
pub notes_one : (xs ys : List Item) (i : Item) → IsStrictlySortedBy item_cmp ys → ((z : Item) → has_item ys z ≡ cond (eq_by_cmp item_cmp i z) true (has_item xs z)) → Notes xs ys (one i)
notes_one xs ys i order changes = record {
  order = λ _. order;
  each = λ z. changes z ∙ (with_item (eq_by_cmp item_cmp i z) (has_item xs z) ∙ ap (λ b. has_item xs z || b) ((eq_by_cmp_equiv item_total).symm i z));
}
