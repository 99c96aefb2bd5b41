-- A worked example: a script over one event page, from the bytes of its input to what is written.
use Rattle.std.specs.Prelude.{◌≡◌, List, [], ◌∷◌, ◌++◌, codes, Ok}
use Rattle.dup_names.specs.Lines.{reading}
use Rattle.dup_names.specs.Words.{Word}
use Rattle.dup_transcript.specs.PressRows.{events_site, title}
use Rattle.dup_transcript.specs.Transcript.{Grammars, IsTranscript}
use Rattle.dup_transcript.specs.WrittenLines.{text_of}
use Rattle.dup_transcript.specs.declared.task.Task.TheVariants.{Play}

abbrev pub site_lines : List Word
site_lines =
    codes "kind event title" ∷
    codes "template event_page of event" ∷
    codes "= <h1>" ∷
    codes "field title" ∷
    codes "= </h1>" ∷
    codes "end" ∷
    codes "family /event event_page" ∷ []

abbrev pub message : Word
message = codes "{\"changes\":[{\"put\":\"event\",\"key\":\"e1\",\"fields\":{\"title\":\"100m\"}}]}"

abbrev pub script_lines : List Word
script_lines =
    (codes "commit " ++ message) ∷
    codes "settle" ∷
    codes "node 1 4 update" ∷
    codes "get 1 0 /event/e1" ∷
    codes "get 1 0 /event/e2" ∷
    codes "get 2 0 /" ∷
    codes "hello" ∷
    codes "node 1 4 update" ∷
    codes "get 1 0 /event/e1" ∷
    codes "evict 1 /event/e1" ∷
    codes "deliver 1" ∷ []

abbrev pub input : Word
input = text_of (site_lines ++ codes "---" ∷ script_lines)

abbrev pub output : Word
output = text_of (
    codes "site ok" ∷
    codes "committed 1" ∷
    codes "settled 1 edition 1 bundles 1 expanded 1 joined 1 kept 0" ∷
    codes "node 1" ∷
    codes "found 1 1 miss 13" ∷
    codes "<h1>100m</h1>" ∷
    codes "absent 1" ∷
    codes "no node 2" ∷
    codes "bad line 15" ∷
    codes "node 1 taken" ∷
    codes "found 1 1 hit 13" ∷
    codes "<h1>100m</h1>" ∷
    codes "evicted" ∷
    codes "delivered 1 edition 1 entries 0" ∷ [])

-- what the grammars that stand above say of this site text and of this feed message
pub record ReadsScript (g : Grammars) : Type 0 where
  pub site : g.site (text_of site_lines) ≡ Ok events_site
  pub feed : g.feed message ≡ Ok (title (codes "100m"))

abbrev pub ScriptRow : Type 0
ScriptRow = (g : Grammars) → ReadsScript g → IsTranscript g Play (reading 0 0 input) 0 output
