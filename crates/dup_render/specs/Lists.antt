-- The lists and groups of a content that were read.
use Rattle.std.specs.Prelude.{◌≡◌, List, Some}
use Rattle.std.specs.BTreeMap as tree
use Rattle.std.specs.declared.alloc.Global.{Global}
use Rattle.std.specs.declared.collections.BTreeMap.{BTreeMap}
use Rattle.dup_names.specs.contracts.object.ItemOrd.TheImpl.{ghosts as order}
use Rattle.dup_names.specs.Words.{Word}
use Rattle.dup_names.specs.declared.object.Item.{Item}
use Rattle.dup_template.specs.declared.value.Value.TheVariants as seen
use Rattle.dup_model.specs.Content.{Content, value}

-- keys that are kept for an item are its value
abbrev pub AreRead : Content → BTreeMap Item (List Word) Global → Type 0
AreRead c lists = (it : Item) (ks : List Word) → tree.get order.cmp lists it ≡ Some ks →
    value c it ≡ seen.Keys ks
