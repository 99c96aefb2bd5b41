-- The feed message of a commit: a JSON text with no space, the members of an object in the order of their names.
use Rattle.std.specs.Prelude.{◌≡◌, List, [], ◌∷◌, map, codes, Some}
use Rattle.dup_names.specs.Words.{Word}
use Rattle.dup_model.specs.Commits.{Commit}
use Rattle.dup_model.specs.declared.edit.Edit.{Edit}
use Rattle.dup_model.specs.declared.edit.Edit.TheVariants.{Put, Remove, Replace}
use Rattle.dup_template.specs.BodyLines.{body_text}
use Rattle.serde_json.specs.Data.{Data, string, array, object, Members, no_members, member}
use Rattle.serde_json.specs.View.{items_of}
use Rattle.serde_json.specs.Written.{compact_text}
use Rattle.dup_feed.specs.Feed.{change_of}

-- a member for each field, its text as a string
abbrev pub fields_data : List (Word × Word) → Members
fields_data [] = no_members
fields_data (f ∷ fs) = member f.0 (string f.1) (fields_data fs)

abbrev pub strings_data : List Word → Data
strings_data words = array (items_of (map string words))

-- {"fields":{FIELD:TEXT,..},"key":KEY,"put":KIND}, {"key":KEY,"remove":KIND} or {"body":[LINE,..],"template":NAME},
-- where the lines are the canonical lines of the body
abbrev pub change_data : Edit → Data
change_data (Put kind key fields) =
    object (member (codes "fields") (object (fields_data fields))
    (member (codes "key") (string key) (member (codes "put") (string kind) no_members)))
change_data (Remove kind key) =
    object (member (codes "key") (string key) (member (codes "remove") (string kind) no_members))
change_data (Replace template body) =
    object (member (codes "body") (strings_data (body_text body))
    (member (codes "template") (string template) no_members))

-- the value of a change says the change
abbrev pub IsSaid : Edit → Type 0
IsSaid e = change_of (change_data e) ≡ Some e

-- {"changes":[CHANGE,..]}
abbrev pub commit_data : Commit → Data
commit_data commit = object (member (codes "changes") (array (items_of (map change_data commit))) no_members)

-- the feed message of a commit
abbrev pub commit_text : Commit → Word
commit_text commit = compact_text (commit_data commit)
