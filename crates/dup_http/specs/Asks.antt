-- What the head of a request asks, and the rules that refuse one.
use Rattle.std.specs.Prelude.{ℕ, ◌^◌, ◌==◌, Bool, true, false, not, ◌&&◌, List, [], ◌∷◌, length, map, codes, nat_eq, nat_le, nat_lt, if◌then◌else◌, Option, Some, None}
use Rattle.std.specs.List.{filter, list_all, before_first}
use Rattle.std.specs.Str.Parse.{digits_value}
use Rattle.http_header.specs.FieldName.{is_field_name}
use Rattle.http_header.specs.Token.{is_value_byte, lowercase}
use Rattle.dup_names.specs.Words.{Word, same}
use Rattle.dup_names.specs.Grammar.{is_digit, is_path}
use Rattle.dup_http.specs.declared.ask.Ask.{Ask}
use Rattle.dup_http.specs.declared.ask.Method.{Method}
use Rattle.dup_http.specs.declared.ask.Method.TheVariants.{Get, Head, Post, Other}

-- A field is its name and its value, without the spaces and tabs at both ends of the value. It is taken where
-- `http_header` takes both.
abbrev pub is_taken : Word × Word → Bool
is_taken f = is_field_name f.0 && list_all is_value_byte f.1

-- the values of the fields with a name, which is given in lower case: names compare without case
abbrev pub values : List (Word × Word) → Word → List Word
values fields name = map (λ f. f.1) (filter (λ f. same (lowercase f.0) name) fields)

-- a field with these values stands there
abbrev pub is_there : List Word → Bool
is_there [] = false
is_there (v ∷ vs) = true

-- one Host, which HTTP/1.0 may lack
abbrev pub is_host : ℕ → List Word → Bool
is_host minor [] = nat_eq minor 0
is_host minor (v ∷ []) = true
is_host minor (v ∷ w ∷ vs) = false

-- the target begins with `/`
abbrev pub starts_with_slash : Word → Bool
starts_with_slash [] = false
starts_with_slash (b ∷ bs) = nat_eq b 47

-- one or more digits
abbrev pub is_digits : Word → Bool
is_digits word = not (length word == 0) && list_all is_digit word

-- 1 to 20 digits, of at most 2^64 - 1
abbrev pub is_pass : Word → Bool
is_pass word = is_digits word && nat_le (length word) 20 && nat_lt (digits_value 10 word) (2 ^ 64)

-- a field is absent, or stands there once with such a value
abbrev pub is_at_most_one : (Word → Bool) → List Word → Bool
is_at_most_one is [] = true
is_at_most_one is (v ∷ []) = is v
is_at_most_one is (v ∷ w ∷ vs) = false

-- the number that a field has, 0 where it is absent
abbrev pub number_in : List Word → ℕ
number_in [] = 0
number_in (v ∷ vs) = digits_value 10 v

-- the longest body, in bytes
abbrev pub max_body : ℕ
max_body = 262144

-- The rules for a head whose fields are taken, in order: what breaks a rule, and the code of the refusal.
-- `of` gives the values of the fields with a name.
abbrev pub rules : ℕ → Word → (Word → List Word) → List (Bool × ℕ)
rules minor target of =
    (not (is_host minor (of (codes "host"))), 400)
    ∷ (not (starts_with_slash target), 400)
    ∷ (is_there (of (codes "transfer-encoding")), 501)
    ∷ (not (is_at_most_one is_digits (of (codes "content-length"))), 400)
    ∷ (nat_lt max_body (number_in (of (codes "content-length"))), 413)
    ∷ (not (is_at_most_one is_pass (of (codes "dup-pass"))), 400)
    ∷ []

-- the code of the first rule that is broken
abbrev pub first_broken : List (Bool × ℕ) → Option ℕ
first_broken [] = None
first_broken (rule ∷ more) = if rule.0 then Some rule.1 else first_broken more

-- why a whole head is refused: a field isn't taken, or else the first of the other rules that is broken
abbrev pub refusal : ℕ → Word → List (Word × Word) → Option ℕ
refusal minor target fields =
    first_broken ((not (list_all is_taken fields), 400) ∷ rules minor target (values fields))

-- the method that a name means, in just this case
abbrev pub method_of : Word → Method
method_of name =
    if same name (codes "GET") then Get else
    (if same name (codes "HEAD") then Head else
    (if same name (codes "POST") then Post else Other))

abbrev pub is_question : ℕ → Bool
is_question b = nat_eq b 63

-- the target up to the first `?`
abbrev pub before_query : Word → Word
before_query target = before_first is_question target

-- the target up to the first `?`, where that is a path
abbrev pub path_of : Word → Option Word
path_of target = if is_path (before_query target) then Some (before_query target) else None

-- what a head asks that no rule refuses
abbrev pub ask_of : Word → Word → (Word → List Word) → Ask
ask_of method target of = record {
  method = method_of method;
  path = path_of target;
  pass = number_in (of (codes "dup-pass"));
  body = number_in (of (codes "content-length"));
}
