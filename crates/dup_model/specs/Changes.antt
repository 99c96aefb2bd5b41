-- What a change makes of the rows, in words. The law above: `commits_law`.
use Rattle.std.specs.Prelude.{◌≡◌, ◌<◌, ◌==◌, ℕ, Bool, false, List, ◌∷◌, ◌++◌, Some, None, length}
use Rattle.std.specs.List.{list_any, slice_get}
use Rattle.std.specs.Option.{unwrap_or}
use Rattle.dup_names.specs.Words.{Word, same, place}
use Rattle.dup_model.specs.declared.edit.Edit.{Edit}
use Rattle.dup_model.specs.declared.edit.Edit.TheVariants.{Put, Remove, Replace}
use Rattle.dup_model.specs.Content.{Content, body_at, row}
use Rattle.dup_template.specs.Frame.{Frame}
use Rattle.dup_template.specs.declared.statement.Statement.{Statement}
use Rattle.dup_model.specs.Names.{kind_at, fields_at, template_at}
use Rattle.dup_model.specs.Commits.{edited, with_fields, blank}

-- a change of the row of this kind under this key
abbrev pub is_of_kind : Frame → Edit → ℕ → Bool
is_of_kind frame (Put name key fields) kind = kind_at frame name == kind
is_of_kind frame (Remove name key) kind = kind_at frame name == kind
is_of_kind frame (Replace template body) kind = false

abbrev pub is_of_key : Edit → Word → Bool
is_of_key (Put kind own fields) key = same own key
is_of_key (Remove kind own) key = same own key
is_of_key (Replace template body) key = false

-- the rows of other kinds, and under other keys, stay
abbrev pub OtherKindsStay : Type 0
OtherKindsStay = (c : Content) (e : Edit) (kind : ℕ) (key : Word) → is_of_kind c.frame e kind ≡ false →
    row (edited c e) kind key ≡ row c kind key

abbrev pub OtherRowsStay : Type 0
OtherRowsStay = (c : Content) (e : Edit) (kind : ℕ) (key : Word) → is_of_key e key ≡ false →
    row (edited c e) kind key ≡ row c kind key

-- after a put the row is there, made of its old texts or of empty ones, with the named fields set
abbrev pub PutMakesTheRow : Type 0
PutMakesTheRow = (c : Content) (name key : Word) (fields : List (Word × Word)) →
    let kind = kind_at c.frame name in
    let names = fields_at c.frame kind in
    kind < length c.tables →
    row (edited c (Put name key fields)) kind key ≡ Some
    (with_fields names fields (unwrap_or (row c kind key) (blank names)))

-- a named field has its text, where no later one names it too; a field that isn't named stays
abbrev pub NamedFieldsAreSet : Type 0
NamedFieldsAreSet = (names : List Word) (before after : List (Word × Word))
    (name text : Word) (texts : List Word) →
    place name names < length texts → list_any (λ f. place f.0 names == place name names) after ≡ false →
    slice_get (with_fields names (before ++ (name, text) ∷ after) texts) (place name names) ≡ Some text

abbrev pub OtherFieldsStay : Type 0
OtherFieldsStay = (names : List Word) (fields : List (Word × Word)) (texts : List Word) (field : ℕ) →
    list_any (λ f. place f.0 names == field) fields ≡ false →
    slice_get (with_fields names fields texts) field ≡ slice_get texts field

-- after a remove the row is gone
abbrev pub RemoveTakesTheRow : Type 0
RemoveTakesTheRow = (c : Content) (name key : Word) →
    row (edited c (Remove name key)) (kind_at c.frame name) key ≡ None

-- after a new body the template has it, the other templates keep theirs, and the rows stay
abbrev pub BodyIsReplaced : Type 0
BodyIsReplaced = (c : Content) (name : Word) (body : List Statement) →
    template_at c.frame name < length c.bodies →
    body_at (edited c (Replace name body)) (template_at c.frame name) ≡ body

abbrev pub OtherBodiesStay : Type 0
OtherBodiesStay = (c : Content) (name : Word) (body : List Statement) (template : ℕ) →
    (template ≡ template_at c.frame name → ⊥) →
    body_at (edited c (Replace name body)) template ≡ body_at c template
