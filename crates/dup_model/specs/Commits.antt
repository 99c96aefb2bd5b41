-- Commits: what they do to a content, and why one is refused. The law above: `commits_law`.
use Rattle.dup_names.specs.declared.limits.TheConstants.{MAX_CHANGES, MAX_TEXT_BYTES}
use Rattle.std.specs.Prelude.{ℕ, ◌+◌, ◌≤◌, Bool, true, ◌&&◌, not, List, [], ◌∷◌, map, Option, Some, None, is_some, if◌then◌else◌, nat_lt, length, IsTrue, slice_set}
use Rattle.std.specs.List.{filter, list_all}
use Rattle.std.specs.Option.{unwrap_or, option_map, option_or}
use Rattle.std.specs.Ordering.{is_lt}
use Rattle.std.specs.declared.cmp.Ordering.{Ordering}
use Rattle.std.specs.declared.cmp.Ordering.TheVariants.{Less, Equal, Greater}
use Rattle.dup_names.specs.Order.{text_cmp}
use Rattle.dup_model.specs.declared.edit.Edit.{Edit}
use Rattle.dup_model.specs.declared.edit.Edit.TheVariants.{Put, Remove, Replace}
use Rattle.dup_names.specs.Words.{Word, same, place}
use Rattle.dup_model.specs.Content.{Content, Table, Entry, row, table}
use Rattle.dup_model.specs.Names.{kind_at, fields_at, template_at}
use Rattle.dup_template.specs.BodyLines.{body_text, longest_of}
use Rattle.dup_template.specs.Good.{new_body_fault}
use Rattle.dup_template.specs.declared.refusal.SiteRefusal.{SiteRefusal}

-- the changes of a commit, in order
abbrev pub Commit : Type 0
Commit = List Edit

-- a commit has 1 to 256 changes
abbrev pub HasCommitLength : Commit → Type 0
HasCommitLength commit = (1 ≤ length commit) × (length commit ≤ MAX_CHANGES)

-- the names of a put rise strictly, and each line of a body fits a text
abbrev pub rise : List (Word × Word) → Bool
rise [] = true
rise (f ∷ []) = true
rise (f ∷ g ∷ fs) = is_lt (text_cmp f.0 g.0) && rise (g ∷ fs)

abbrev pub IsInOrder : Edit → Type 0
IsInOrder (Put kind key fields) = IsTrue (rise fields)
IsInOrder (Remove kind key) = Unit {0}
IsInOrder (Replace template body) = longest_of (body_text body) ≤ MAX_TEXT_BYTES

-- the texts of a row after the named fields are set
abbrev pub with_fields : List Word → List (Word × Word) → List Word → List Word
with_fields names [] texts = texts
with_fields names (f ∷ fs) texts = with_fields names fs (slice_set texts (place f.0 names) f.1)

-- a table with this row under the key, in the keys' order
abbrev pub put_row_at : Ordering → Entry → Entry → Table → Table → Table
put_row_at Less new e es rest = new ∷ e ∷ es
put_row_at Equal new e es rest = new ∷ es
put_row_at Greater new e es rest = e ∷ rest

abbrev pub put_row : Entry → Table → Table
put_row new [] = new ∷ []
put_row new (e ∷ es) = put_row_at (text_cmp new.0 e.0) new e es (put_row new es)

abbrev pub with_table : Content → ℕ → Table → Content
with_table c kind rows = record c { tables = slice_set c.tables kind rows }

abbrev pub blank : List Word → List Word
blank names = map (λ _. []) names

-- what one change makes: a put sets the named fields, and makes the row where it is absent; a new body stands
-- in place of the template's
abbrev pub edited : Content → Edit → Content
edited c (Put name key fields) =
    let kind = kind_at c.frame name in
    let names = fields_at c.frame kind in
    with_table c kind (put_row (
      key,
      with_fields names fields (unwrap_or (row c kind key) (blank names)),
    ) (table c kind))
edited c (Remove name key) =
    let kind = kind_at c.frame name in
    with_table c kind (filter (λ e. not (same e.0 key)) (table c kind))
edited c (Replace name body) = record c { bodies = slice_set c.bodies (template_at c.frame name) body }

-- the changes in order
abbrev pub after : Content → Commit → Content
after c [] = c
after c (e ∷ es) = after (edited c e) es

-- why a commit is refused; the number is that of the change, from 1
pub data Refusal : Type 0 where
  UnknownKind : ℕ → Refusal
  UnknownField : ℕ → Refusal
  NoRow : ℕ → Refusal
  KindFull : ℕ → Refusal
  JournalFull : ℕ → ℕ → Refusal  -- its commits and its bytes
  UnknownTemplate : ℕ → Refusal
  BadBody : ℕ → SiteRefusal → Refusal

abbrev pub knows : List Word → List (Word × Word) → Bool
knows names fields = list_all (λ f. nat_lt (place f.0 names) (length names)) fields

-- a body of a template that is there may break a rule of bodies, which look at the frame alone
abbrev pub bad_body : ℕ → Option SiteRefusal → Option Refusal
bad_body n fault = option_map (BadBody n) fault

-- why the n-th change can't be made whatever the limits: the kind first, then the fields, then the row; the
-- template first, then its body
abbrev pub edit_misfit : Content → ℕ → Edit → Option Refusal
edit_misfit c n (Put name key fields) =
    let kind = kind_at c.frame name in
    if not (nat_lt kind (length c.frame.kinds)) then Some (UnknownKind n) else
    (if not (knows (fields_at c.frame kind) fields) then Some (UnknownField n) else None)
edit_misfit c n (Remove name key) =
    let kind = kind_at c.frame name in
    if not (nat_lt kind (length c.frame.kinds)) then Some (UnknownKind n) else
    (if not (is_some (row c kind key)) then Some (NoRow n) else None)
edit_misfit c n (Replace name body) =
    let template = template_at c.frame name in
    if not (nat_lt template (length c.frame.templates)) then Some (UnknownTemplate n) else
    bad_body n (new_body_fault c.frame template body)

-- a new row that its kind has no room for
abbrev pub no_room : Content → ℕ → ℕ → Edit → Option Refusal
no_room c rows n (Put name key fields) =
    let kind = kind_at c.frame name in
    if not (is_some (row c kind key)) && not (nat_lt (length (table c kind)) rows) then Some (KindFull n)
    else None
no_room c rows n (Remove name key) = None
no_room c rows n (Replace name body) = None

abbrev pub misfit_from : ℕ → Content → Commit → Option Refusal
misfit_from n c [] = None
misfit_from n c (e ∷ es) = option_or (edit_misfit c n e) (misfit_from (1 + n) (edited c e) es)

abbrev pub refusal_from : ℕ → Content → Commit → ℕ → Option Refusal
refusal_from n c [] rows = None
refusal_from n c (e ∷ es) rows =
    option_or (option_or (edit_misfit c n e) (no_room c rows n e)) (refusal_from (1 + n) (edited c e) es rows)

-- why a commit can't follow a content, whatever the limits; and with so many rows at most in a kind
abbrev pub misfit : Content → Commit → Option Refusal
misfit = misfit_from 1

abbrev pub refusal : Content → Commit → ℕ → Option Refusal
refusal = refusal_from 1
