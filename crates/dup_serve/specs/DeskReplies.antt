-- What the feed desk sends for a whole head that isn't refused, and its body.
use Rattle.std.specs.Prelude.{ℕ, ◌++◌, codes, if◌then◌else◌, Option, Some, None}
use Rattle.std.specs.Fmt.{decimal}
use Rattle.dup_names.specs.Words.{Word, same}
use Rattle.dup_http.specs.declared.answer.Allow.TheVariants.{GetHead, Post as PostAlone}
use Rattle.dup_http.specs.declared.ask.Ask.{Ask}
use Rattle.dup_http.specs.declared.ask.Method.{Method}
use Rattle.dup_http.specs.declared.ask.Method.TheVariants.{Get, Head, Post, Other}
use Rattle.dup_serve.specs.Sent.{Sent, said, absent, not_allowed, sent_text}

-- what the desk answers to the body of a commit; any other refusal than the first two has the words of its
-- answer
pub data Took : Type 0 where
  NotJson : Took
  JournalFull : Took
  Refused : Word → Took
  Accepted : ℕ → Took

-- what is sent for it
abbrev pub took : Took → Sent
took NotJson = said 400 (codes "refused not json")
took JournalFull = said 503 (codes "refused journal full")
took (Refused words) = said 422 words
took (Accepted version) = said 200 (codes "committed " ++ decimal version)

-- at `/commit`: POST alone is allowed
abbrev pub commit_by : Method → Took → Sent
commit_by Post answer = took answer
commit_by Get answer = not_allowed PostAlone
commit_by Head answer = not_allowed PostAlone
commit_by Other answer = not_allowed PostAlone

-- at `/status`: GET and HEAD alone are allowed; `words` are those of the answer of `status`
abbrev pub status_by : Method → Word → Sent
status_by Get words = said 200 words
status_by Head words = said 200 words
status_by Post words = not_allowed GetHead
status_by Other words = not_allowed GetHead

-- nothing stands at another path
abbrev pub at_path : Option Word → Method → Took → Word → Sent
at_path None method answer words = absent
at_path (Some path) method answer words =
    if same path (codes "/commit") then commit_by method answer else
    (if same path (codes "/status") then status_by method words else absent)

-- the table of the desk, by what it answers to the ask's body as a commit, and the words of its status
abbrev pub desk_table : Ask → Took → Word → Sent
desk_table ask answer words = at_path ask.path ask.method answer words

-- what the desk writes for an ask
abbrev pub desk_text : Ask → Took → Word → Word
desk_text ask answer words = sent_text ask.method (desk_table ask answer words)
