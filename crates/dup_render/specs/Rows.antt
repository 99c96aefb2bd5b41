-- The rows that an `each` goes over.
use Rattle.std.specs.Prelude.{ℕ, List, Option, Some, None}
use Rattle.dup_names.specs.Words.{Word}
use Rattle.dup_names.specs.declared.object.Item.{Item}
use Rattle.dup_names.specs.declared.object.Item.TheVariants as item
use Rattle.dup_render.specs.declared.rows.Rows.{Rows}
use Rattle.dup_render.specs.declared.rows.Rows.TheVariants as rows
use Rattle.dup_model.specs.Content.{Content, keys, group}
use Rattle.dup_model.specs.Names.{kind_at, field_at}

-- the kind of rows
abbrev pub kind_of : Rows → ℕ
kind_of (rows.All kind) = kind
kind_of (rows.Group kind field key) = kind

-- the item that gives them
abbrev pub item_of : Rows → Item
item_of (rows.All kind) = item.List kind
item_of (rows.Group kind field key) = item.Group kind field key

-- their keys, in order
abbrev pub keys_of : Content → Rows → List Word
keys_of c (rows.All kind) = keys c kind
keys_of c (rows.Group kind field key) = group c kind field key

-- the rows of an `each`: a group is of the current row, and there is none without one
abbrev pub rows_of : Content → Word → Option Word → Option Word → Option Rows
rows_of c name None key = Some (rows.All (kind_at c.frame name))
rows_of c name (Some by) None = None
rows_of c name (Some by) (Some key) =
    let kind = kind_at c.frame name in
    Some (rows.Group kind (field_at c.frame kind by) key)
