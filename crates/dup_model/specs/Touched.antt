-- What differs from a content a to a content b. The laws above: `changes_law`, `incremental_law`.
use Rattle.std.specs.Prelude.{Bool, true, false, not, ◌&&◌, ◌||◌, List, [], ◌∷◌, Option, Some, None, IsTrue, if◌then◌else◌}
use Rattle.std.specs.List.{Contains, filter, list_any}
use Rattle.std.specs.Ordering.{is_lt}
use Rattle.std.specs.Cmp.Lexicographic.{pointwise}
use Rattle.dup_names.specs.Grammar.{is_key}
use Rattle.dup_names.specs.Order.{item_cmp}
use Rattle.dup_names.specs.declared.object.Obj.{Obj}
use Rattle.dup_names.specs.declared.object.Item.{Item}
use Rattle.dup_names.specs.declared.object.Item.TheVariants as item
use Rattle.dup_template.specs.declared.value.Value.{Value}
use Rattle.dup_template.specs.declared.value.Value.TheVariants as seen
use Rattle.dup_names.specs.Objects.{is_in}
use Rattle.dup_names.specs.Words.{same}
use Rattle.dup_template.specs.SameBody.{same_body}
use Rattle.dup_model.specs.Content.{Content, value}
use Rattle.dup_model.specs.Skeletons.{reads}
use Rattle.dup_model.specs.Looks.{uses}
use Rattle.dup_model.specs.Pages.{live}

abbrev pub same_value : Value → Value → Bool
same_value (seen.Text a) (seen.Text b) = same a b
same_value (seen.Exists a) (seen.Exists b) = if a then b else not b
same_value (seen.Keys a) (seen.Keys b) = pointwise same a b
same_value (seen.Body a) (seen.Body b) = same_body a b
same_value _ _ = false

-- an item has another value at b than at a
abbrev pub differs : Content → Content → Item → Bool
differs a b it = not (same_value (value a it) (value b it))

-- an item whose key, if it has one, is a key
abbrev pub is_item : Item → Bool
is_item (item.Field kind key field) = is_key key
is_item (item.Row kind key) = is_key key
is_item (item.List kind) = true
is_item (item.Group kind field key) = is_key key
is_item (item.Template template) = true

abbrev pub items_rise : List Item → Bool
items_rise [] = true
items_rise (i ∷ []) = true
items_rise (i ∷ j ∷ is) = is_lt (item_cmp i j) && items_rise (j ∷ is)

-- these are the items whose values differ, in item order
pub record AreChanged (a b : Content) (items : List Item) : Type 0 where
  pub rising : IsTrue (items_rise items)
  pub all : (it : Item) → IsTrue (is_item it) → IsTrue (differs a b it) → Contains items it
  pub only : (it : Item) → Contains items it → IsTrue (differs a b it)

-- the objects that don't pass a test
abbrev pub without : (Obj → Bool) → List Obj → List Obj
without test objs = filter (λ o. not (test o)) objs

-- an item that o reads at a differs
abbrev pub touched : Content → Content → Obj → Bool
touched a b o = list_any (differs a b) (reads a o)

-- an object that o uses at a is touched
abbrev pub affected : Content → Content → Obj → Bool
affected a b o = list_any (touched a b) (uses a o)

-- of the objects that pages use at b, those that pages didn't use at a, and those that pass a test from a to
-- b
abbrev pub renewed : (Content → Content → Obj → Bool) → Option Content → Content → List Obj
renewed test None b = live b
renewed test (Some a) b = filter (λ o. not (is_in (live a) o) || test a b o) (live b)

-- what is expanded, and what is joined, on the way from a target to the next
abbrev pub expanded : Option Content → Content → List Obj
expanded = renewed touched

abbrev pub joined : Option Content → Content → List Obj
joined = renewed affected
