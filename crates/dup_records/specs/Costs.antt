-- What the value of an item costs.
use Rattle.std.specs.Prelude.{ℕ, ◌+◌, ◌≤◌, ◌<◌, ◌^◌, length}
use Rattle.dup_names.specs.declared.object.Item.{Item}
use Rattle.dup_names.specs.declared.object.Item.TheVariants.{Field, Row, List as AllKeys, Group, Template}
use Rattle.dup_model.specs.Content.{Content, group, table}

-- of a group a step for each key, for each binary digit of the number of the kind's rows, and 8 more at most
abbrev pub GroupCosts : Content → Item → ℕ → ℕ → Type 0
GroupCosts c (Field kind key field) old new = Unit {0}
GroupCosts c (Row kind key) old new = Unit {0}
GroupCosts c (AllKeys kind) old new = Unit {0}
GroupCosts c (Group kind field key) old new =
    (digits : ℕ) → length (table c kind) < 2 ^ digits → new ≤ old + length (group c kind field key) + digits + 8
GroupCosts c (Template template) old new = Unit {0}
