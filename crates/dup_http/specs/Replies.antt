-- The head of a reply.
use Rattle.std.specs.Prelude.{◌≡◌, ℕ, map, Bool, true, false, List, [], ◌∷◌, ◌++◌, codes, nat_eq, if◌then◌else◌, Option, Some, None, option_map, unwrap_or}
use Rattle.std.specs.Fmt.{decimal}
use Rattle.std.specs.List.{flat_map}
use Rattle.httparse.specs.Grammar.{ResponseHead, ReadsResponse, status_code}
use Rattle.httparse.specs.Spans.{name_and_value}
use Rattle.dup_names.specs.Words.{Word}
use Rattle.dup_http.specs.declared.answer.Answer.{Answer}
use Rattle.dup_http.specs.declared.answer.Allow.{Allow}
use Rattle.dup_http.specs.declared.answer.Allow.TheVariants.{GetHead, Post}
use Rattle.dup_http.specs.declared.answer.CacheWord.{CacheWord}
use Rattle.dup_http.specs.declared.answer.CacheWord.TheVariants.{Hit, Miss, Unkept}

-- the codes of replies, each with its reason
abbrev pub reasons : List (ℕ × Word)
reasons =
    (200, codes "OK")
    ∷ (400, codes "Bad Request")
    ∷ (404, codes "Not Found")
    ∷ (405, codes "Method Not Allowed")
    ∷ (413, codes "Content Too Large")
    ∷ (422, codes "Unprocessable Content")
    ∷ (431, codes "Request Header Fields Too Large")
    ∷ (501, codes "Not Implemented")
    ∷ (503, codes "Service Unavailable")
    ∷ []

abbrev pub reason_in : ℕ → List (ℕ × Word) → Option Word
reason_in code [] = None
reason_in code (r ∷ rs) = if nat_eq code r.0 then Some r.1 else reason_in code rs

-- the reason of a code, if it is a code of replies
abbrev pub reason : ℕ → Option Word
reason code = reason_in code reasons

-- the type of a page, and of any other body
abbrev pub content_type : Bool → Word
content_type true = codes "text/html; charset=utf-8"
content_type false = codes "text/plain; charset=utf-8"

-- the methods that are allowed
abbrev pub allow_text : Allow → Word
allow_text GetHead = codes "GET, HEAD"
allow_text Post = codes "POST"

-- where a page came from
abbrev pub cache_text : CacheWord → Word
cache_text Hit = codes "hit"
cache_text Miss = codes "miss"
cache_text Unkept = codes "unkept"

-- a field that applies where there is a value
abbrev pub given : Word → Option Word → List (Word × Word)
given name None = []
given name (Some value) = (name, value) ∷ []

-- the fields of a reply, names with their values, in order
abbrev pub reply_fields : Answer → List (Word × Word)
reply_fields a =
    (codes "Content-Type", content_type a.page) ∷ (codes "Content-Length", decimal a.length)
    ∷ (given (codes "Allow") (option_map allow_text a.allow)
    ++ given (codes "DUP-Edition") (option_map decimal a.edition)
    ++ given (codes "DUP-Version") (option_map decimal a.version)
    ++ given (codes "DUP-Pass") (option_map decimal a.pass)
    ++ given (codes "DUP-Cache") (option_map cache_text a.cache)
    ++ (codes "Connection", codes "close") ∷ [])

-- a field's line
abbrev pub field_line : Word × Word → Word
field_line f = f.0 ++ codes ": " ++ f.1 ++ codes "\r\n"

-- the first line of a reply
abbrev pub status_line : ℕ → Word
status_line code =
    codes "HTTP/1.1 " ++ decimal code ++ codes " " ++ unwrap_or (reason code) [] ++ codes "\r\n"

-- the status line, the fields, and an empty line
abbrev pub reply_head : Answer → Word
reply_head a = status_line a.code ++ flat_map field_line (reply_fields a) ++ codes "\r\n"

-- the grammar of replies reads the text as a head with this code and these fields, and nothing behind it
pub record IsReadAs (text : Word) (code : ℕ) (fields : List (Word × Word)) : Type 0 where
  pub head : ResponseHead
  pub reads : ReadsResponse text head []
  pub code_is : status_code head ≡ code
  pub fields_are : map name_and_value head.fields ≡ fields
