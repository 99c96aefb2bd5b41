-- A content: the frame of a site, the bodies of its templates, and the rows of each kind in the order of
-- their keys.
use Rattle.std.specs.Prelude.{◌≡◌, ℕ, List, [], map, Option, Some, None, is_some}
use Rattle.std.specs.List.{find, filter, slice_get}
use Rattle.std.specs.Option.{option_map, unwrap_or}
use Rattle.dup_names.specs.Words.{Word, same}
use Rattle.dup_names.specs.declared.object.Item.{Item}
use Rattle.dup_names.specs.declared.object.Item.TheVariants.{Field, Row, List as AllKeys, Group, Template}
use Rattle.dup_template.specs.declared.value.Value.{Value}
use Rattle.dup_template.specs.declared.value.Value.TheVariants as seen
use Rattle.dup_template.specs.declared.site.Parts.{Parts}
use Rattle.dup_template.specs.declared.statement.Statement.{Statement}
use Rattle.dup_template.specs.Frame.{Frame, frame_of, bodies_of}

-- a row: its key, and the text of each field
abbrev pub Entry : Type 0
Entry = Word × List Word

-- rows with rising keys
abbrev pub Table : Type 0
Table = List Entry

pub record Content : Type 0 where
  pub frame : Frame
  pub bodies : List (List Statement)
  pub tables : List Table

-- content 0 of a site: no rows
abbrev pub start : Parts → Content
start site = record { frame = frame_of site; bodies = bodies_of site; tables = map (λ _. []) site.kinds }

-- a content with the frame and the bodies of this site
pub record IsOf (site : Parts) (c : Content) : Type 0 where
  pub frame : c.frame ≡ frame_of site
  pub bodies : c.bodies ≡ bodies_of site

-- a template's body, empty where there is no such template
abbrev pub body_at : Content → ℕ → List Statement
body_at c template = unwrap_or (slice_get c.bodies template) []

-- the rows of a kind, none of a kind that isn't there
abbrev pub table : Content → ℕ → Table
table c kind = unwrap_or (slice_get c.tables kind) []

-- the texts of a row, if it is there
abbrev pub row : Content → ℕ → Word → Option (List Word)
row c kind key = option_map (λ e. e.1) (find (λ e. same e.0 key) (table c kind))

-- a field of a row that may be absent, empty where the row or the field isn't there
abbrev pub texts_at : Option (List Word) → ℕ → Word
texts_at None field = []
texts_at (Some texts) field = unwrap_or (slice_get texts field) []

abbrev pub text : Content → ℕ → Word → ℕ → Word
text c kind key field = texts_at (row c kind key) field

-- the keys of a kind, in order
abbrev pub keys : Content → ℕ → List Word
keys c kind = map (λ e. e.0) (table c kind)

-- the keys of the rows whose field is this text, in order
abbrev pub group : Content → ℕ → ℕ → Word → List Word
group c kind field key = map (λ e. e.0) (filter (λ e. same (texts_at (Some e.1) field) key) (table c kind))

abbrev pub value : Content → Item → Value
value c (Field kind key field) = seen.Text (text c kind key field)
value c (Row kind key) = seen.Exists (is_some (row c kind key))
value c (AllKeys kind) = seen.Keys (keys c kind)
value c (Group kind field key) = seen.Keys (group c kind field key)
value c (Template template) = seen.Body (body_at c template)
