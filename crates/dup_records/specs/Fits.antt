-- Rows with a text for each field of their kind.
use Rattle.std.specs.Prelude.{◌≡◌, ℕ, List, [], length}
use Rattle.std.specs.List.{AllByRecursion, slice_get}
use Rattle.std.specs.Option.{unwrap_or}
use Rattle.dup_model.specs.Content.{Content, Table}
use Rattle.dup_template.specs.Frame.{Frame}
use Rattle.dup_model.specs.Names.{fields_at}

-- each of these rows has so many texts
abbrev pub HaveTexts : ℕ → Table → Type 0
HaveTexts count rows = AllByRecursion (λ e. length e.1 ≡ count) rows

abbrev pub TablesFit : Frame → List Table → Type 0
TablesFit frame tables =
    (kind : ℕ) → HaveTexts (length (fields_at frame kind)) (unwrap_or (slice_get tables kind) [])

-- each row of a content has a text for each field of its kind
abbrev pub RowsFit : Content → Type 0
RowsFit c = TablesFit c.frame c.tables
