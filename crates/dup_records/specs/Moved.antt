-- The items that differ between two contents by the rows and the templates that changes name.
use Rattle.std.specs.Prelude.{◌≡◌, ℕ, zero, suc, Bool, false, not, ◌&&◌, ◌||◌, List, is_some, length, if◌then◌else◌}
use Rattle.std.specs.List.{list_any}
use Rattle.std.specs.List.Sorted.{IsStrictlySortedBy}
use Rattle.std.specs.Ordering.{eq_by_cmp}
use Rattle.dup_names.specs.Grammar.{is_key}
use Rattle.dup_names.specs.Order.{item_cmp}
use Rattle.dup_names.specs.Words.{Word, same}
use Rattle.dup_names.specs.declared.object.Item.{Item}
use Rattle.dup_names.specs.declared.object.Item.TheVariants as item
use Rattle.dup_model.specs.declared.edit.Edit.{Edit}
use Rattle.dup_model.specs.declared.edit.Edit.TheVariants.{Put, Remove, Replace}
use Rattle.dup_template.specs.SameBody.{same_body}
use Rattle.dup_model.specs.Commits.{Commit}
use Rattle.dup_model.specs.Content.{Content, body_at, row, text}
use Rattle.dup_model.specs.Names.{kind_at, fields_at, template_at}

abbrev pub one : Item → Item → Bool
one i it = eq_by_cmp item_cmp it i

-- one of these items
abbrev pub has_item : List Item → Item → Bool
has_item items it = list_any (eq_by_cmp item_cmp it) items

-- these items, in item order, are those that pass a test
pub record AreNoted (items : List Item) (test : Item → Bool) : Type 0 where
  pub order : IsStrictlySortedBy item_cmp items
  pub each : (it : Item) → has_item items it ≡ test it

-- ys has besides those that pass a test
pub record Notes (xs ys : List Item) (more : Item → Bool) : Type 0 where
  pub order : IsStrictlySortedBy item_cmp xs → IsStrictlySortedBy item_cmp ys
  pub each : (it : Item) → has_item ys it ≡ (has_item xs it || more it)

-- the group of a field that has this text, where the text is a key
abbrev pub group_named : ℕ → ℕ → Word → Item → Bool
group_named kind field text it = is_key text && one (item.Group kind field text) it

-- a row's field, and the groups that the row left and joined, where the field's text differs
abbrev pub moved_field : Content → Content → ℕ → Word → ℕ → Item → Bool
moved_field a b kind key field it =
    not (same (text a kind key field) (text b kind key field))
    && (one (item.Field kind key field) it
    || (group_named kind field (text a kind key field) it
    || group_named kind field (text b kind key field) it))

-- of the first few fields
abbrev pub moved_fields : Content → Content → ℕ → Word → ℕ → Item → Bool
moved_fields a b kind key zero it = false
moved_fields a b kind key (suc n) it = moved_fields a b kind key n it || moved_field a b kind key n it

abbrev pub is_row : Content → ℕ → Word → Bool
is_row c kind key = is_some (row c kind key)

-- a row that is there in one of the two alone, and the list of its kind
abbrev pub moved_row : Content → Content → ℕ → Word → Item → Bool
moved_row a b kind key it =
    not (if is_row a kind key then is_row b kind key else not (is_row b kind key))
    && (one (item.Row kind key) it || one (item.List kind) it)

-- by the row of a kind, and by the row that a change names
abbrev pub moved_in : Content → Content → ℕ → Word → Item → Bool
moved_in a b kind key it =
    moved_row a b kind key it || moved_fields a b kind key (length (fields_at a.frame kind)) it

abbrev pub moved_at : Content → Content → Word → Word → Item → Bool
moved_at a b name key it = moved_in a b (kind_at a.frame name) key it

-- a template whose body differs
abbrev pub moved_body : Content → Content → ℕ → Item → Bool
moved_body a b template it =
    not (same_body (body_at a template) (body_at b template)) && one (item.Template template) it

abbrev pub moved_by_edit : Content → Content → Item → Edit → Bool
moved_by_edit a b it (Put name key fields) = moved_at a b name key it
moved_by_edit a b it (Remove name key) = moved_at a b name key it
moved_by_edit a b it (Replace name body) = moved_body a b (template_at a.frame name) it

abbrev pub moved_by_commit : Content → Content → Commit → Item → Bool
moved_by_commit a b commit it = list_any (moved_by_edit a b it) commit

-- by one of these commits
abbrev pub moved_by : Content → Content → List Commit → Item → Bool
moved_by a b commits it = list_any (λ commit. moved_by_commit a b commit it) commits
