-- How the lines of a body stand to whole site texts, and to the body's canonical lines. The law above:
-- `bodies_law`.
use Rattle.std.specs.Prelude.{◌≡◌, ◌↔◌, List, [], ◌∷◌, ◌++◌, map, true, codes, Option, Some, Ok}
use Rattle.std.specs.List.{flat_map, list_all}
use Rattle.dup_names.specs.Grammar.{is_name}
use Rattle.dup_names.specs.Lines.{line}
use Rattle.dup_names.specs.LineWords.{trimmed}
use Rattle.dup_names.specs.Words.{Word}
use Rattle.dup_template.specs.BodyLines.{body_text}
use Rattle.dup_template.specs.declared.site.Parts.{Parts}
use Rattle.dup_template.specs.declared.statement.Statement.{Statement}
use Rattle.dup_site.specs.Canonical.{statement_lines}
use Rattle.dup_site.specs.SaidBody.{body_said, is_one_line}
use Rattle.dup_site.specs.SaidTexts.{plain_line}
use Rattle.dup_site.specs.Spelling.{are_spelled, head_text, is_named, text_says}
use Rattle.dup_site.specs.declared.site_line.Head.TheVariants.{Template}

-- the text of a template's line, these lines and `end`
abbrev pub template_text : Word → Option Word → List Word → Word
template_text name kind lines =
    flat_map line (head_text (Template name kind) ∷ (lines ++ codes "end" ∷ []))

-- one template, and nothing else
abbrev pub one_template : Word → Option Word → List Statement → Parts
one_template name kind body =
    record { kinds = []; templates = (record { name = name; kind = kind; body = body }) ∷ []; pages = [] }

-- lines say a body exactly where none holds a line feed, and the text of a template's line, these lines and
-- `end` says the one template with this body
abbrev pub BodiesStandInTexts : Type 0
BodiesStandInTexts = (name : Word) (kind : Option Word) (lines : List Word) (body : List Statement) →
    is_name name ≡ true → is_named kind ≡ true →
    (body_said lines ≡ Some body)
    ↔ ((list_all is_one_line lines ≡ true)
    × (text_says (template_text name kind lines) ≡ Ok (one_template name kind body)))

-- lines that say a body are its canonical lines, save blank lines, comments and spaces
abbrev pub BodiesAreCanonical : Type 0
BodiesAreCanonical = (lines : List Word) (body : List Statement) → body_said lines ≡ Some body →
    flat_map (λ bytes. plain_line (trimmed bytes)) lines ≡ body_text body

-- the canonical lines of a body say it, where its names are names and its texts plain
abbrev pub BodiesAreSaidAgain : Type 0
BodiesAreSaidAgain = (body : List Statement) → are_spelled (flat_map (λ ls. ls) (map statement_lines body)) →
    body_said (body_text body) ≡ Some body
