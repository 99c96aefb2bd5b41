-- What the bytes of a connection are read as.
use Rattle.std.specs.Prelude.{◌≡◌, ℕ, ◌+◌, ◌<◌, ◌≤◌, ◌⊎◌, Bool, true, false, ◌||◌, List, [], ◌++◌, length, take, map, nat_le, nat_lt, if◌then◌else◌, Option, Some, None, IsSome}
use Rattle.std.specs.List.{count_by}
use Rattle.httparse.specs.Grammar.{RequestHead, IsRequestHead, ReadsRequest, NeverHasRequest, MayBecomeRequest, print_request}
use Rattle.httparse.specs.Spans.{name_and_value, RequestExceeds}
use Rattle.dup_names.specs.Lines.{is_feed}
use Rattle.dup_names.specs.Words.{Word}
use Rattle.dup_http.specs.Asks.{refusal, values, ask_of, max_body}
use Rattle.dup_http.specs.Replies.{reason}
use Rattle.dup_http.specs.declared.ask.Ask.{Ask}
use Rattle.dup_http.specs.declared.ask.Reading.{Reading}
use Rattle.dup_http.specs.declared.ask.Reading.TheVariants.{Complete, More, Bad}

-- the longest head, in bytes
abbrev pub max_head : ℕ
max_head = 8192

-- the most fields of a head
abbrev pub max_fields : ℕ
max_fields = 64

-- what is looked at: the first bytes, as many as a head may have
abbrev pub window : List ℕ → List ℕ
window bytes = take max_head bytes

-- a head of this size is whole, unless it is refused
abbrev pub unless_refused : Option ℕ → Ask → ℕ → Reading
unless_refused None ask size = Complete ask size
unless_refused (Some code) ask size = Bad code

-- what a whole head with these parts is read as: the code of the first rule that it breaks, else what it
-- asks, and its size
abbrev pub parts_say : ℕ → Word → Word → List (Word × Word) → ℕ → Reading
parts_say minor method target fields size =
    unless_refused (refusal minor target fields) (ask_of method target (values fields)) size

-- what a whole head is read as
abbrev pub head_says : RequestHead → Reading
head_says h = parts_say h.minor h.method h.target (map name_and_value h.fields) (length (print_request h))

-- the bytes begin with a head of at most 64 fields
pub record BeginsWith (bytes : List ℕ) (h : RequestHead) : Type 0 where
  pub rest : List ℕ
  pub reads : ReadsRequest bytes h rest
  pub few : length h.fields ≤ max_fields

-- the bytes begin with no head of at most 64 fields
abbrev pub HasNoHead : List ℕ → Type 0
HasNoHead bytes = (h : RequestHead) → ¬ (BeginsWith bytes h)

-- they are as long as a head may be, or have more line feeds than a head of 64 fields that begins with its
-- request line
abbrev pub is_full : List ℕ → Bool
is_full bytes = nat_le max_head (length bytes) || nat_lt (max_fields + 2) (count_by is_feed bytes)

-- The grammar refuses nothing yet: some bytes can follow that make it a head; or it ends in the target,
-- whose test for UTF-8 waits for its end; or more than 64 fields are there already.
abbrev pub IsOpen : List ℕ → Type 0
IsOpen bytes = MayBecomeRequest bytes ⊎ RequestExceeds max_fields bytes

-- What is read where no whole head is there. The grammar refuses only what no bytes can mend that follow.
-- While it refuses nothing, more is wanted, unless the window is full.
abbrev pub IsUnfinished : List ℕ → Reading → Type 0
IsUnfinished bytes (Complete ask size) = ⊥
IsUnfinished bytes More = IsOpen bytes × (is_full bytes ≡ false)
IsUnfinished bytes (Bad code) =
    ((code ≡ 400) × NeverHasRequest bytes) ⊎ ((code ≡ 431) × IsOpen bytes × (is_full bytes ≡ true))

-- what a window is read as: the head that it begins with, or that it has none
abbrev pub Reads : List ℕ → Reading → Type 0
Reads bytes reading =
    ((h : RequestHead) × BeginsWith bytes h × (reading ≡ head_says h))
    ⊎ (HasNoHead bytes × IsUnfinished bytes reading)

-- whichever head of at most 64 fields a window begins with is the one that is read
abbrev pub ReadsItsHead : List ℕ → Reading → Type 0
ReadsItsHead bytes reading = (h : RequestHead) → BeginsWith bytes h → reading ≡ head_says h

-- a whole head of more fields in the window is too large
abbrev pub RefusesManyFields : List ℕ → Reading → Type 0
RefusesManyFields bytes reading =
    (h : RequestHead) (rest : List ℕ) → ReadsRequest bytes h rest → max_fields < length h.fields
    → reading ≡ Bad 431

-- What a caller may count on: a head lies in that many bytes, and its body isn't too large; more is wanted
-- only while there are fewer than 8,192 bytes; the code of a refusal has a reason.
abbrev pub IsInBounds : ℕ → Reading → Type 0
IsInBounds n (Complete ask size) = (size ≤ n) × (ask.body ≤ max_body)
IsInBounds n More = n < max_head
IsInBounds n (Bad code) = IsSome (reason code)

-- a head that begins with its request line, of at most 64 fields and 8,192 bytes
pub record IsPlain (h : RequestHead) : Type 0 where
  pub head : IsRequestHead h
  pub first : h.blank ≡ []
  pub few : length h.fields ≤ max_fields
  pub short : length (print_request h) ≤ max_head

-- what the first so many bytes of a request with this head are read as
abbrev pub cut_says : RequestHead → ℕ → Reading
cut_says h n = if nat_le (length (print_request h)) n then head_says h else More

-- the bytes are what came so far of a request with a plain head: they are read as that head says, however the
-- request is cut
abbrev pub ReadsHoweverCut : List ℕ → Reading → Type 0
ReadsHoweverCut bytes reading =
    (h : RequestHead) (rest more : List ℕ) → IsPlain h → bytes ++ more ≡ print_request h ++ rest
    → reading ≡ cut_says h (length bytes)
