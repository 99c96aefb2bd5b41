-- What the bytes of a feed message say.
use Rattle.std.specs.Prelude.{◌≡◌, ℕ, ◌+◌, Bool, codes, nat_eq, nat_le, nat_lt, if◌then◌else◌, List, [], ◌∷◌}
use Rattle.std.specs.Prelude.{length}
use Rattle.std.specs.Prelude.{Option, Some, None, is_some, option_map, option_and_then, Result, Ok, Err}
use Rattle.std.specs.Str.{is_utf8}
use Rattle.dup_names.specs.Words.{Word}
use Rattle.dup_names.specs.Grammar.{is_name, is_key}
use Rattle.dup_names.specs.declared.limits.TheConstants.{MAX_CHANGES, MAX_TEXT_BYTES}
use Rattle.dup_model.specs.Commits.{Commit}
use Rattle.dup_model.specs.declared.edit.Edit.{Edit}
use Rattle.dup_model.specs.declared.edit.Edit.TheVariants.{Put, Remove, Replace}
use Rattle.dup_site.specs.SaidBody.{body_said}
use Rattle.dup_template.specs.declared.statement.Statement.{Statement}
use Rattle.serde_json.specs.Data.{Data, Items, no_items, item, Members, no_members, member}
use Rattle.serde_json.specs.Find.{get, as_str, as_array, as_object}
use Rattle.serde_json.specs.Read.{read}
use Rattle.serde_json.specs.View.{view}
use Rattle.serde_json.specs.declared.value.Value.{Value}
use Rattle.dup_model.specs.declared.feed_refusal.FeedRefusal.{FeedRefusal}
use Rattle.dup_model.specs.declared.feed_refusal.FeedRefusal.TheVariants.{NotJson, Shape, TooMany, NoMemory}

-- the word, where it is of the grammar
abbrev pub where_so : (Word → Bool) → Word → Option Word
where_so is w = if is w then Some w else None

-- the member's string, where it is there and of the grammar
abbrev pub word_at : Word → (Word → Bool) → Data → Option Word
word_at name is d = option_and_then (where_so is) (option_and_then as_str (get name d))

abbrev pub count_members : Members → ℕ
count_members no_members = 0
count_members (member k d ms) = 1 + count_members ms

-- how many members an object has
abbrev pub count_of : Option Members → ℕ
count_of None = 0
count_of (Some ms) = count_members ms

abbrev pub is_text : Word → Bool
is_text text = nat_le (length text) MAX_TEXT_BYTES

-- a field's name, and its text
abbrev pub field_of : Word → Data → Option (Word × Word)
field_of name d =
    if is_name name then option_map (λ text. (name, text))
    (option_and_then (where_so is_text) (as_str d)) else None

abbrev pub fields_of : Members → Option (List (Word × Word))
fields_of no_members = Some []
fields_of (member name d ms) =
    option_and_then (λ f. option_map (λ fs. f ∷ fs) (fields_of ms)) (field_of name d)

-- {"put": KIND, "key": KEY, "fields": {FIELD: TEXT, ..}}
abbrev pub put_of : Data → Option Edit
put_of d =
    option_and_then (λ kind. option_and_then (λ key. option_map (Put kind key)
    (option_and_then fields_of (option_and_then as_object (get (codes "fields") d))))
    (word_at (codes "key") is_key d))
    (word_at (codes "put") is_name d)

-- {"remove": KIND, "key": KEY}
abbrev pub remove_of : Data → Option Edit
remove_of d =
    option_and_then (λ kind. option_map (Remove kind) (word_at (codes "key") is_key d))
    (word_at (codes "remove") is_name d)

-- a line of a template's body
abbrev pub line_of : Data → Option Word
line_of d = option_and_then (where_so is_text) (as_str d)

abbrev pub lines_of : Items → Option (List Word)
lines_of no_items = Some []
lines_of (item d ds) = option_and_then (λ line. option_map (λ lines. line ∷ lines) (lines_of ds)) (line_of d)

-- what the lines of the array `body` say as the body of a template
abbrev pub body_of : Data → Option (List Statement)
body_of d = option_and_then body_said (option_and_then lines_of (option_and_then as_array (get (codes "body") d)))

-- {"template": NAME, "body": [LINE, ..]}
abbrev pub replace_of : Data → Option Edit
replace_of d =
    option_and_then (λ template. option_map (Replace template) (body_of d))
    (word_at (codes "template") is_name d)

-- has a member of this name
abbrev pub has : Word → Data → Bool
has name d = is_some (get name d)

-- a put, a remove, or a template's new body, with no other members
abbrev pub change_of : Data → Option Edit
change_of d =
    if nat_eq (count_of (as_object d)) 3 then put_of d else
    (if nat_eq (count_of (as_object d)) 2 then (if has (codes "template") d then replace_of d else remove_of d) else None)

-- the array of an object with the one member `changes`
abbrev pub changes_of : Data → Option Items
changes_of d =
    if nat_eq (count_of (as_object d)) 1 then option_and_then as_array (get (codes "changes") d) else None

abbrev pub Said : Type 0
Said = Result Commit FeedRefusal

abbrev pub put_first : Edit → Said → Said
put_first e (Ok es) = Ok (e ∷ es)
put_first e (Err f) = Err f

abbrev pub each_by : ℕ → Option Edit → Said → Said
each_by i None rest = Err (Shape i)
each_by i (Some e) rest = put_first e rest

-- a change each, or the number of the first that isn't one; i: the number of the first of these
abbrev pub each_from : ℕ → Items → Said
each_from i no_items = Ok []
each_from i (item d ds) = each_by i (change_of d) (each_from (i + 1) ds)

abbrev pub count_items : Items → ℕ
count_items no_items = 0
count_items (item d ds) = 1 + count_items ds

abbrev pub array_says : Option Items → Said
array_says None = Err (Shape 0)
array_says (Some ds) =
    if nat_eq (count_items ds) 0 then Err (Shape 0) else
    (if nat_lt MAX_CHANGES (count_items ds) then Err (TooMany (count_items ds)) else each_from 1 ds)

-- what a JSON value says
abbrev pub data_says : Option Data → Said
data_says None = Err NotJson
data_says (Some d) = array_says (changes_of d)

-- the JSON value of bytes, where they are one
abbrev pub json_of : List ℕ → Option Data
json_of bytes = if is_utf8 bytes then read bytes else None

-- what bytes say
abbrev pub feed_says : List ℕ → Said
feed_says bytes = data_says (json_of bytes)

-- the refusal of bytes that say this; want of memory may come whatever they say
abbrev pub Refuses : FeedRefusal → Said → Type 0
Refuses NoMemory said = Unit {0}
Refuses e said = said ≡ Err e

-- what the bytes say, unless memory runs out
abbrev pub Reads : Result Commit FeedRefusal → Said → Type 0
Reads (Ok commit) said = said ≡ Ok commit
Reads (Err e) said = Refuses e said

-- the value that was read, or none
abbrev pub ReadsJson : Result Value FeedRefusal → Option Data → Type 0
ReadsJson (Ok value) found = found ≡ Some (view value)
ReadsJson (Err NoMemory) found = Unit {0}
ReadsJson (Err NotJson) found = found ≡ None
ReadsJson (Err e) found = ⊥
