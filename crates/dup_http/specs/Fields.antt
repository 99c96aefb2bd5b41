-- What the code keeps of the fields of a head. No public clause cites this.
use Rattle.std.specs.Prelude.{ℕ, List, [], ◌∷◌, map, nat_le, if◌then◌else◌, Option, Some, None, Result, Ok, Err}
use Rattle.std.specs.List.{list_all}
use Rattle.std.specs.Str.Parse.{digits_value}
use Rattle.http_header.specs.Token.{lowercase}
use Rattle.dup_names.specs.Words.{Word, same}
use Rattle.dup_http.specs.declared.fields.Field.{Field}
use Rattle.dup_http.specs.declared.ask.Ask.{Ask}
use Rattle.dup_http.specs.Asks.{is_taken, is_digits, is_pass, max_body}

-- a field as its name and its value
abbrev pub seen : Field → Word × Word
seen f = (f.name, f.value.bytes)

-- with its name in lower case
abbrev pub lowered : Word × Word → Word × Word
lowered f = (lowercase f.0, f.1)

-- a field as it is kept, where it is taken
abbrev pub taken : Word × Word → Option (Word × Word)
taken f = if is_taken f then Some (lowered f) else None

-- the fields as they are kept, where all are taken
abbrev pub all_taken : List (Word × Word) → Option (List (Word × Word))
all_taken fs = if list_all is_taken fs then Some (map lowered fs) else None

-- the values of the fields that are kept with a name
abbrev pub found : List (Word × Word) → Word → List Word
found [] name = []
found (f ∷ fs) name = if same f.0 name then f.1 ∷ found fs name else found fs name

-- the length of the body by these values of Content-Length, or the code of the refusal
abbrev pub body_of : List Word → Result ℕ ℕ
body_of [] = Ok 0
body_of (v ∷ []) =
    if is_digits v then (if nat_le (digits_value 10 v) max_body then Ok (digits_value 10 v) else Err 413)
    else Err 400
body_of (v ∷ w ∷ vs) = Err 400

-- the pass by these values of DUP-Pass, or the code of the refusal
abbrev pub pass_of : List Word → Result ℕ ℕ
pass_of [] = Ok 0
pass_of (v ∷ []) = if is_pass v then Ok (digits_value 10 v) else Err 400
pass_of (v ∷ w ∷ vs) = Err 400

-- the ask, or the code of the rule that is broken
abbrev pub unless : Option ℕ → Ask → Result Ask ℕ
unless None ask = Ok ask
unless (Some code) ask = Err code
