-- What is sent: an answer, as a head, and a body.
use Rattle.std.specs.Prelude.{◌≡◌, ℕ, IsSome, false, [], ◌++◌, length, codes, nat_eq, if◌then◌else◌, Some, None}
use Rattle.dup_names.specs.Lines.{line}
use Rattle.dup_names.specs.Words.{Word}
use Rattle.dup_http.specs.declared.answer.Allow.{Allow}
use Rattle.dup_http.specs.declared.answer.Answer.{Answer}
use Rattle.dup_http.specs.declared.ask.Ask.{Ask}
use Rattle.dup_http.specs.declared.ask.Method.{Method}
use Rattle.dup_http.specs.declared.ask.Method.TheVariants.{Get, Head, Post, Other}
use Rattle.dup_http.specs.Replies.{reason, reply_head}

-- an answer and its body
pub record Sent : Type 0 where
  pub answer : Answer
  pub body : Word

-- the code has a reason, and the length is the body's
pub record IsSendable (s : Sent) : Type 0 where
  pub known : IsSome (reason s.answer.code)
  pub sized : s.answer.length ≡ length s.body

-- for HEAD no body
abbrev pub body_for : Method → Word → Word
body_for Head body = []
body_for Get body = body
body_for Post body = body
body_for Other body = body

-- what is written for a method: the head that GET would have, and the body
abbrev pub text_for : Method → Answer → Word → Word
text_for method answer body = reply_head answer ++ body_for method body

-- the same of an answer and its body
abbrev pub sent_text : Method → Sent → Word
sent_text method s = text_for method s.answer s.body

-- a code and its words, as a line
abbrev pub said : ℕ → Word → Sent
said code words = record {
  answer = record {
    code = code;
    page = false;
    length = length (line words);
    allow = None;
    edition = None;
    version = None;
    pass = None;
    cache = None;
  };
  body = line words;
}

-- what a refusal of a head says
abbrev pub bad_words : ℕ → Word
bad_words code =
    if nat_eq code 413 then codes "too large" else
    (if nat_eq code 431 then codes "head too large" else
    (if nat_eq code 501 then codes "not implemented" else codes "bad request"))

-- a head is refused with this code, or the input ended early, where the code is 400
abbrev pub refused : ℕ → Sent
refused code = said code (bad_words code)

-- no ask was read, so it has its body whatever the method was
abbrev pub refused_text : ℕ → Word
refused_text code = sent_text Get (refused code)

-- the input ended inside the body of this ask
abbrev pub cut_text : Ask → Word
cut_text ask = sent_text ask.method (refused 400)

-- nothing stands at the path
abbrev pub absent : Sent
absent = said 404 (codes "absent")

-- the path allows these methods alone
abbrev pub not_allowed : Allow → Sent
not_allowed allow =
    let no = said 405 (codes "method not allowed") in
    record no { answer = record no.answer { allow = Some allow } }
