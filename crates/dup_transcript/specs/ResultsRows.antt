-- A worked example: the site of results, with an event page that embeds a line for each of its results.
use Rattle.std.specs.Prelude.{◌≡◌, [], ◌∷◌, Some, None, codes, false}
use Rattle.std.specs.FinMap as fin
use Rattle.dup_names.specs.Words.{Word}
use Rattle.dup_names.specs.declared.object.Obj.{Obj}
use Rattle.dup_names.specs.declared.object.Item.{Item}
use Rattle.dup_names.specs.declared.object.Item.TheVariants as item
use Rattle.dup_template.specs.declared.value.Value.TheVariants as seen
use Rattle.dup_names.specs.declared.value.Piece.TheVariants as piece
use Rattle.dup_names.specs.declared.value.Look.{Look}
use Rattle.dup_template.specs.declared.site.Parts.{Parts}
use Rattle.dup_template.specs.declared.site.PageRule.TheVariants.{Family}
use Rattle.dup_template.specs.declared.statement.Statement.TheVariants as s
use Rattle.dup_model.specs.declared.edit.Edit.{Edit}
use Rattle.dup_model.specs.declared.edit.Edit.TheVariants.{Put, Remove}
use Rattle.dup_model.specs.Content.{Content, body_at, start, value}
use Rattle.dup_model.specs.Commits.{Commit, refusal, UnknownKind, UnknownField, NoRow, KindFull, JournalFull}
use Rattle.dup_model.specs.Versions.{content}
use Rattle.dup_model.specs.Journal.{Limits, commit_refusal}
use Rattle.dup_model.specs.Skeletons.{skeleton}
use Rattle.dup_model.specs.Looks.{uses, look}
use Rattle.dup_model.specs.Pages.{pages, live, target}
use Rattle.dup_model.specs.Touched.{expanded, joined}
use Rattle.dup_model.specs.Expansions.{notes}

abbrev pub results : Parts
results = record {
  kinds =
      record { name = codes "event"; fields = codes "title" ∷ [] } ∷
      (record { name = codes "result"; fields = codes "event" ∷ (codes "who" ∷ (codes "place" ∷ [])) } ∷ []);
  templates =
      record {
        name = codes "line";
        kind = Some (codes "result");
        body =
            s.Say (codes "<li>")
            ∷ (s.Field (codes "place")
            ∷ (s.Say (codes ":") ∷ (s.Field (codes "who") ∷ (s.Say (codes "</li>") ∷ []))));
      } ∷
      (record {
        name = codes "event_page";
        kind = Some (codes "event");
        body =
            s.Say (codes "<h1>") ∷ (s.Field (codes "title") ∷ (s.Say (codes "</h1>") ∷
            (s.Each (codes "result") (Some (codes "event")) (Some (codes "place"))
            (s.Embed (codes "line") None ∷ []) ∷ [])));
      } ∷ []);
  pages = Family (codes "/event") (codes "event_page") ∷ [];
}

abbrev pub result_of : Word → Word → Word → Edit
result_of key who place =
    Put (codes "result") key ((codes "event", codes "e1")
    ∷ ((codes "place", place) ∷ ((codes "who", who) ∷ [])))

-- an event with three results, placed 2, 10 and 9
abbrev pub first_commit : Commit
first_commit =
    Put (codes "event") (codes "e1") ((codes "title", codes "100m") ∷ []) ∷
    (result_of (codes "r1") (codes "Ann") (codes "2")
    ∷ (result_of (codes "r2") (codes "Bob") (codes "10")
    ∷ (result_of (codes "r3") (codes "Cy") (codes "9") ∷ [])))

-- who came in second is Ana now
abbrev pub second_commit : Commit
second_commit = Put (codes "result") (codes "r1") ((codes "who", codes "Ana") ∷ []) ∷ []

abbrev pub first_version : Content
first_version = content results (first_commit ∷ [])

abbrev pub second_version : Content
second_version = content results (first_commit ∷ (second_commit ∷ []))

abbrev pub event_page : Obj
event_page = record { template = 1; key = Some (codes "e1") }

abbrev pub line : Word → Obj
line key = record { template = 0; key = Some key }

abbrev pub place_of : Word → Item
place_of key = item.Field 1 key 2

abbrev pub of_event : Item
of_event = item.Group 1 0 (codes "e1")

-- the results in the order of their places: 2, 9, 10
abbrev pub page_bytes : Word
page_bytes = codes "<h1>100m</h1><li>2:Ann</li><li>9:Cy</li><li>10:Bob</li>"

abbrev pub page_look : Look
page_look = record {
  obj = event_page;
  bytes = page_bytes;
  uses =
      (line (codes "r1"), codes "<li>2:Ann</li>") ∷ ((line (codes "r2"), codes "<li>10:Bob</li>") ∷
      ((line (codes "r3"), codes "<li>9:Cy</li>") ∷ ((event_page, page_bytes) ∷ [])));
  links = [];
}

pub record EventPageRow : Type 0 where
  pub tables : first_version.tables ≡
      ((codes "e1", codes "100m" ∷ []) ∷ []) ∷
      (((codes "r1", codes "e1" ∷ (codes "Ann" ∷ (codes "2" ∷ []))) ∷
      ((codes "r2", codes "e1" ∷ (codes "Bob" ∷ (codes "10" ∷ []))) ∷
      ((codes "r3", codes "e1" ∷ (codes "Cy" ∷ (codes "9" ∷ []))) ∷ []))) ∷ [])
  pub title : value first_version (item.Field 0 (codes "e1") 0) ≡ seen.Text (codes "100m")
  pub no_title : value first_version (item.Field 0 (codes "e2") 0) ≡ seen.Text []
  pub no_row : value first_version (item.Row 0 (codes "e2")) ≡ seen.Exists false
  pub group : value first_version of_event ≡ seen.Keys (codes "r1" ∷ (codes "r2" ∷ (codes "r3" ∷ [])))
  pub notes : notes first_version event_page ≡
      (item.Field 0 (codes "e1") 0, seen.Text (codes "100m")) ∷
      ((place_of (codes "r1"), seen.Text (codes "2"))
      ∷ ((place_of (codes "r2"), seen.Text (codes "10"))
      ∷ ((place_of (codes "r3"), seen.Text (codes "9")) ∷
      ((of_event, seen.Keys (codes "r1" ∷ (codes "r2" ∷ (codes "r3" ∷ []))))
      ∷ ((item.Template 1, seen.Body (body_at first_version 1)) ∷ [])))))
  pub skeleton : skeleton first_version event_page ≡ record {
    pieces = piece.Plain (codes "<h1>100m</h1>")
        ∷ (piece.Hole (line (codes "r1"))
        ∷ (piece.Hole (line (codes "r3")) ∷ (piece.Hole (line (codes "r2")) ∷ [])));
    links = [];
  }
  pub uses : uses first_version event_page ≡ line (codes "r1")
      ∷ (line (codes "r2") ∷ (line (codes "r3") ∷ (event_page ∷ [])))
  pub look : look first_version event_page ≡ page_look
  pub pages : pages first_version ≡ (codes "/event/e1", event_page) ∷ []
  pub target : target first_version ≡ fin.from_entries ((codes "/event/e1", page_look) ∷ [])
  pub live : live first_version ≡ line (codes "r1")
      ∷ (line (codes "r2") ∷ (line (codes "r3") ∷ (event_page ∷ [])))

-- the second commit touches one line, and so affects the page that embeds it
pub record SecondResultRow : Type 0 where
  pub expanded : expanded (Some first_version) second_version ≡ line (codes "r1") ∷ []
  pub joined : joined (Some first_version) second_version ≡ line (codes "r1") ∷ (event_page ∷ [])

abbrev pub title_of : Word → Word → Commit
title_of key title = Put (codes "event") key ((codes "title", title) ∷ []) ∷ []

-- one row of a kind, two commits
abbrev pub tight : Limits
tight = record { rows = 1; commits = 2; bytes = 1000 }

pub record RefusalRows : Type 0 where
  pub no_row : refusal (start results) (Put (codes "event") (codes "e2") ((codes "title", codes "x") ∷ [])
      ∷ (Remove (codes "event") (codes "e9") ∷ [])) 4096 ≡ Some (NoRow 2)
  pub unknown_kind : refusal (start results) (Put (codes "race") (codes "e1") ((codes "title", codes "x")
      ∷ []) ∷ []) 4096 ≡ Some (UnknownKind 1)
  pub unknown_field : refusal (start results) (Put (codes "event") (codes "e1") ((codes "name", codes "x")
      ∷ []) ∷ []) 4096 ≡ Some (UnknownField 1)
  pub kind_full : commit_refusal results tight (title_of (codes "e1") (codes "A")
      ∷ []) (title_of (codes "e2") (codes "A")) ≡ Some (KindFull 1)
  pub journal_full : commit_refusal results tight (title_of (codes "e1") (codes "A")
      ∷ (title_of (codes "e1") (codes "B") ∷ [])) (title_of (codes "e1") (codes "C"))
      ≡ Some (JournalFull 2 26)
