-- What `each` gives: the body for each of its rows. The law above: `shows_law`.
use Rattle.std.specs.Prelude.{ℕ, List, [], ◌∷◌, ◌++◌, map, Option, Some, None}
use Rattle.std.specs.List.{flat_map}
use Rattle.dup_names.specs.declared.object.Item.{Item}
use Rattle.dup_names.specs.declared.object.Item.TheVariants as item
use Rattle.dup_model.specs.declared.mark.Mark.{Mark}
use Rattle.dup_model.specs.declared.mark.Mark.TheVariants as mark
use Rattle.dup_names.specs.Words.{Word, in_order}
use Rattle.dup_model.specs.Content.{Content, keys, group}
use Rattle.dup_model.specs.Names.{kind_at, field_at}
use Rattle.dup_model.specs.Here.{Here, row_at, on_key, by_field}

-- the body for each of these rows
abbrev pub bodies : ℕ → (Here → List Mark) → List Word → List Mark
bodies kind body ks = flat_map (λ q. body (row_at kind (Some q))) ks

-- the same rows, in the order of their keys or by a field
abbrev pub rows_by : Content → ℕ → Option Word → List Word → List Word
rows_by c kind None ks = ks
rows_by c kind (Some order) ks = in_order (by_field c kind (field_at c.frame kind order)) ks

-- to order rows by a field is to read it of each
abbrev pub order_reads : Content → ℕ → Option Word → List Word → List Mark
order_reads c kind None ks = []
order_reads c kind (Some order) ks = map (λ q. mark.Read (item.Field kind q (field_at c.frame kind order))) ks

-- the turns of an `each` over these rows
abbrev pub turns : Content → ℕ → Option Word → (Here → List Mark) → Item → List Word → List Mark
turns c kind order body it ks =
    mark.Read it ∷ (order_reads c kind order ks ++ bodies kind body (rows_by c kind order ks))

abbrev pub group_marks : Content → Word → Word → Option Word → (Here → List Mark) → Word → List Mark
group_marks c name by order body key =
    let kind = kind_at c.frame name in
    let field = field_at c.frame kind by in
    turns c kind order body (item.Group kind field key) (group c kind field key)

abbrev pub each_marks : Content → Word → Option Word → Option Word → (Here → List Mark) → Option Word →
    List Mark
each_marks c name None order body key =
    let kind = kind_at c.frame name in
    turns c kind order body (item.List kind) (keys c kind)
each_marks c name (Some by) order body key = on_key key (group_marks c name by order body)
