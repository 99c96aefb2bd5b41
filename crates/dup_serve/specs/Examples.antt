-- Worked examples of what is sent, word for word.
use Rattle.std.specs.Prelude.{◌≡◌, ℕ, true, false, List, [], ◌∷◌, ◌++◌, codes, Some, None, Option}
use Rattle.dup_names.specs.Words.{Word}
use Rattle.dup_model.specs.Caches.{Cache}
use Rattle.dup_model.specs.Editions.{Page, Bundle}
use Rattle.dup_model.specs.declared.mode.Mode.TheVariants.{Update}
use Rattle.dup_http.specs.declared.ask.Ask.{Ask}
use Rattle.dup_http.specs.declared.ask.Method.{Method}
use Rattle.dup_http.specs.declared.ask.Method.TheVariants.{Get, Head, Post}
use Rattle.dup_serve.specs.Sent.{refused_text, cut_text}
use Rattle.dup_serve.specs.NodeReplies.{node_text}
use Rattle.dup_serve.specs.DeskReplies.{NotJson, JournalFull, Refused, Accepted, desk_text}

abbrev pub asks : Method → Option Word → ℕ → Ask
asks method path pass = record { method = method; path = path; pass = pass; body = 0 }

-- the page of an event, at version 1
abbrev pub event_page : Page
event_page = record {
  path = codes "/event/e1";
  version = 1;
  look = record {
    obj = record { template = 0; key = Some (codes "e1") };
    bytes = codes "<h1>100m</h1>";
    uses = [];
    links = [];
  };
}

-- the log of a window: one bundle, which puts that page
abbrev pub log : List Bundle
log = record { version = 1; commits = []; puts = event_page ∷ []; drops = [] } ∷ []

-- an empty cache of four pages, which knows no bundle yet
abbrev pub empty : Cache
empty = record { capacity = 4; mode = Update; number = 0; entries = [] }

-- the same once the page was asked for
abbrev pub warm : Cache
warm = record { capacity = 4; mode = Update; number = 1; entries = event_page ∷ [] }

abbrev pub at_event : Option Word
at_event = Some (codes "/event/e1")

abbrev pub at_commit : Option Word
at_commit = Some (codes "/commit")

abbrev pub at_status : Option Word
at_status = Some (codes "/status")

-- the head of a reply with a line of so many bytes, and further fields
abbrev pub plain_head : Word → Word → Word → Word
plain_head code length fields =
    codes "HTTP/1.1 " ++ code ++ codes "\r\nContent-Type: text/plain; charset=utf-8\r\n"
    ++ codes "Content-Length: " ++ length ++ codes "\r\n" ++ fields ++ codes "Connection: close\r\n\r\n"

-- the head of a reply that has the page
abbrev pub event_head : Word → Word
event_head how =
    codes "HTTP/1.1 200 OK\r\nContent-Type: text/html; charset=utf-8\r\nContent-Length: 13\r\n"
    ++ codes "DUP-Edition: 1\r\nDUP-Version: 1\r\nDUP-Cache: " ++ how ++ codes "\r\nConnection: close\r\n\r\n"

pub record NodeRows : Type 0 where
  pub found : node_text empty log true (asks Get at_event 1)
      ≡ event_head (codes "miss") ++ codes "<h1>100m</h1>"
  pub unkept : node_text empty log false (asks Get at_event 1)
      ≡ event_head (codes "unkept") ++ codes "<h1>100m</h1>"
  pub head : node_text warm log true (asks Head at_event 1) ≡ event_head (codes "hit")
  pub not_allowed : node_text empty log true (asks Post at_event 1)
      ≡ plain_head (codes "405 Method Not Allowed") (codes "19") (codes "Allow: GET, HEAD\r\n")
      ++ codes "method not allowed\n"
  pub ahead : node_text empty log true (asks Get at_event 2)
      ≡ plain_head (codes "503 Service Unavailable") (codes "6") (codes "DUP-Edition: 1\r\nDUP-Pass: 2\r\n")
      ++ codes "ahead\n"
  pub absent : node_text empty log true (asks Get (Some (codes "/event/e2")) 1)
      ≡ plain_head (codes "404 Not Found") (codes "7") (codes "DUP-Edition: 1\r\n") ++ codes "absent\n"
  pub no_path : node_text empty log true (asks Get None 2)
      ≡ plain_head (codes "404 Not Found") (codes "7") [] ++ codes "absent\n"
  pub bad_request : refused_text 400
      ≡ plain_head (codes "400 Bad Request") (codes "12") [] ++ codes "bad request\n"
  pub too_large : refused_text 413
      ≡ plain_head (codes "413 Content Too Large") (codes "10") [] ++ codes "too large\n"
  pub head_too_large : refused_text 431
      ≡ plain_head (codes "431 Request Header Fields Too Large") (codes "15") [] ++ codes "head too large\n"
  pub not_implemented : refused_text 501
      ≡ plain_head (codes "501 Not Implemented") (codes "16") [] ++ codes "not implemented\n"

pub record DeskRows : Type 0 where
  pub accepted : desk_text (asks Post at_commit 0) (Accepted 3) []
      ≡ plain_head (codes "200 OK") (codes "12") [] ++ codes "committed 3\n"
  pub not_json : desk_text (asks Post at_commit 0) NotJson []
      ≡ plain_head (codes "400 Bad Request") (codes "17") [] ++ codes "refused not json\n"
  pub full : desk_text (asks Post at_commit 0) JournalFull []
      ≡ plain_head (codes "503 Service Unavailable") (codes "21") [] ++ codes "refused journal full\n"
  pub refused : desk_text (asks Post at_commit 0) (Refused (codes "refused no row 1")) []
      ≡ plain_head (codes "422 Unprocessable Content") (codes "17") [] ++ codes "refused no row 1\n"
  pub get : desk_text (asks Get at_commit 0) NotJson []
      ≡ plain_head (codes "405 Method Not Allowed") (codes "19") (codes "Allow: POST\r\n")
      ++ codes "method not allowed\n"
  pub status : desk_text (asks Get at_status 0) NotJson (codes "idle")
      ≡ plain_head (codes "200 OK") (codes "5") [] ++ codes "idle\n"
  pub head : desk_text (asks Head at_status 0) NotJson (codes "idle")
      ≡ plain_head (codes "200 OK") (codes "5") []
  pub post : desk_text (asks Post at_status 0) NotJson (codes "idle")
      ≡ plain_head (codes "405 Method Not Allowed") (codes "19") (codes "Allow: GET, HEAD\r\n")
      ++ codes "method not allowed\n"
  pub absent : desk_text (asks Post at_event 0) NotJson []
      ≡ plain_head (codes "404 Not Found") (codes "7") [] ++ codes "absent\n"
  pub cut : cut_text (asks Post at_commit 0)
      ≡ plain_head (codes "400 Bad Request") (codes "12") [] ++ codes "bad request\n"
  pub cut_head : cut_text (asks Head at_status 0) ≡ plain_head (codes "400 Bad Request") (codes "12") []
