-- Lists that were read stay so where one is kept.
use Rattle.std.proofs.Common.{◌≡◌, Bool, true, false, List, Option, Some, cond, ◌⊎◌, inl, inr, refl, sym, ap, ◌∙◌}
use Rattle.std.proofs.lemmas.Option.{same_Some}
use Rattle.std.specs.BTreeMap as tree
use Rattle.std.specs.Cmp.{Equal-is}
use Rattle.std.specs.Ordering.{is_eq}
use Rattle.std.specs.declared.alloc.Global.{Global}
use Rattle.std.specs.declared.collections.BTreeMap.{BTreeMap}
use Rattle.dup_names.specs.contracts.object.ItemOrd.TheImpl.{ghosts as order}
use Rattle.dup_names.specs.Words.{Word}
use Rattle.dup_names.specs.declared.object.Item.{Item}
use Rattle.dup_names.proofs.ItemOrder.{item_cmp_at, item_tied}
use Rattle.dup_template.specs.declared.value.Value.TheVariants as seen
use Rattle.dup_model.specs.Content.{Content, value}
use Rattle.dup_render.specs.Lists.{AreRead}
use Rattle.dup_render.specs.Rows.{item_of, keys_of}
use Rattle.dup_render.specs.declared.rows.Rows.{Rows}
use Rattle.dup_render.specs.declared.rows.Rows.TheVariants as rows

same_item : (a b : Item) → is_eq (order.cmp a b) ≡ true → a ≡ b
same_item a b tie = item_tied a b (sym (item_cmp_at a b) ∙ (Equal-is (order.cmp a b)).0 tie)

-- the value of the item that gives rows is their keys
pub rows_value : (c : Content) (rs : Rows) → value c (item_of rs) ≡ seen.Keys (keys_of c rs)
rows_value c (rows.All kind) = refl
rows_value c (rows.Group kind field key) = refl

kept_or_before : {X : Type 0} (kept found : X) (before : Option X) (b : Bool) → cond b (Some kept) before ≡ Some found →
    ((b ≡ true) × (kept ≡ found)) ⊎ (before ≡ Some found)
kept_or_before kept found before true is = inl (refl, same_Some kept found is)
kept_or_before kept found before false is = inr is

pub read_insert : (c : Content) (old new : BTreeMap Item (List Word) Global) (it : Item) (ks : List Word) → value c it ≡ seen.Keys ks
    → ((q : Item) → tree.get order.cmp new q ≡ cond (is_eq (order.cmp it q)) (Some ks) (tree.get order.cmp old q))
    → AreRead c old → AreRead c new
read_insert c old new it ks is now were q found there =
    elim (kept_or_before ks found (tree.get order.cmp old q) (is_eq (order.cmp it q)) (sym (now q) ∙ there)) [
      | inl kept ↦ sym (ap (value c) (same_item it q kept.0)) ∙ is ∙ ap seen.Keys kept.1
      | inr before ↦ were q found before
    ]
