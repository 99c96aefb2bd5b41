-- The canonical lines of a body, and how many and how long they are. `lines`, `longest` and `length` of a
-- shared body are these.
use Rattle.dup_names.specs.LineWords.{spaced}
use Rattle.dup_names.specs.Words.{Word}
use Rattle.dup_template.specs.declared.measure.Measure.{Measure}
use Rattle.dup_template.specs.declared.statement.Statement.{Statement, fold-Statement}
use Rattle.dup_template.specs.declared.statement.Statement.TheOpen.{Statement-F}
use Rattle.std.specs.List.{flat_map, sum_by}
use Rattle.std.specs.Prelude.{ℕ, ◌+◌, ◌-◌, ◌^◌, List, [], ◌∷◌, ◌++◌, map, Option, Some, None, codes, length, max, min}

-- a word and a name behind it, where there is one
abbrev pub with_word : Word → Option Word → List Word
with_word word None = []
with_word word (Some name) = word ∷ name ∷ []

abbrev pub say_text : Word → Word
say_text words = codes "= " ++ words

abbrev pub field_text : Word → Word
field_text f = spaced (codes "field" ∷ f ∷ [])

abbrev pub if_text : Word → Word
if_text f = spaced (codes "if" ∷ f ∷ [])

abbrev pub each_text : Word → Option Word → Option Word → Word
each_text kind by order =
    spaced (codes "each" ∷ kind ∷ (with_word (codes "by") by ++ with_word (codes "order") order))

abbrev pub embed_text : Word → Option Word → Word
embed_text name via = spaced (codes "embed" ∷ name ∷ with_word (codes "via") via)

abbrev pub link_text : Word → Option Word → Word
link_text name via = spaced (codes "link" ∷ name ∷ with_word (codes "via") via)

-- what is opened, the lines within, and `end`
abbrev pub between : Word → List (List Word) → List Word
between first bodies = first ∷ (flat_map (λ b. b) bodies ++ codes "end" ∷ [])

abbrev pub text_step : Statement-F (List Word) → List Word
text_step (Statement-F.Say words) = say_text words ∷ []
text_step Statement-F.Nl = codes "nl" ∷ []
text_step (Statement-F.Field f) = field_text f ∷ []
text_step Statement-F.Key = codes "key" ∷ []
text_step (Statement-F.If f body) = between (if_text f) body
text_step (Statement-F.Each of by order body) = between (each_text of by order) body
text_step (Statement-F.Embed name via) = embed_text name via ∷ []
text_step (Statement-F.Link name via body) = between (link_text name via) body

-- the canonical lines of a statement, without what ends them
abbrev pub statement_text : Statement → List Word
statement_text = fold-Statement (List Word) text_step

abbrev pub body_text : List Statement → List Word
body_text body = flat_map (λ ls. ls) (map statement_text body)

-- the greatest length
abbrev pub longest_of : List Word → ℕ
longest_of [] = 0
longest_of (w ∷ ws) = max (length w) (longest_of ws)

-- a number, or the greatest that 64 bits hold
abbrev pub within_64 : ℕ → ℕ
within_64 n = min n (2 ^ 64 - 1)

abbrev pub measure_of : List Word → Measure
measure_of ls = record {
  lines = within_64 (length ls);
  longest = within_64 (longest_of ls);
  length = within_64 (sum_by length ls);
}

-- the measure of lines behind lines
abbrev pub joined : Measure → Measure → Measure
joined a b = record {
  lines = within_64 (a.lines + b.lines);
  longest = max a.longest b.longest;
  length = within_64 (a.length + b.length);
}
