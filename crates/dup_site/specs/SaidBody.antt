-- What lines say as the body of a template. The law above: `bodies_law`.
use Rattle.std.specs.Prelude.{◌≤◌, List, [], ◌∷◌, map, length, not, codes, Bool, if◌then◌else◌, IsUtf8}
use Rattle.std.specs.Prelude.{Option, Some, None, option_and_then}
use Rattle.std.specs.List.{list_all}
use Rattle.dup_names.specs.Words.{Word}
use Rattle.dup_names.specs.Lines.{is_feed}
use Rattle.dup_names.specs.declared.limits.TheConstants.{MAX_TEXT_BYTES}
use Rattle.dup_template.specs.declared.statement.Statement.{Statement}
use Rattle.dup_site.specs.declared.site_line.SiteLine.{SiteLine}
use Rattle.dup_site.specs.declared.site_line.Head.{Head}
use Rattle.dup_site.specs.declared.site_line.Head.TheVariants.{Template}
use Rattle.dup_site.specs.Draft.{Draft, Open, blank, is_none, opened, step_at}
use Rattle.dup_site.specs.Spelling.{line_of}

-- no line feed stands in it
abbrev pub is_one_line : Word → Bool
is_one_line bytes = list_all (λ b. not (is_feed b)) bytes

-- what one line of a body says, None where it has no form
abbrev pub body_line : Word → Option SiteLine
body_line bytes = if is_one_line bytes then line_of bytes else None

-- the draft behind these lines, where each may stand where it stands
abbrev pub after_lines : Draft → List (Option SiteLine) → Option Draft
after_lines d [] = Some d
after_lines d (l ∷ ls) = option_and_then (λ e. after_lines e ls) (step_at d l)

-- behind the line of a template
abbrev pub begun : Head → Draft
begun head = opened blank (record { head = head; done = [] } ∷ [])

-- the statements of what is open, where that is one
abbrev pub of_one : List Open → Option (List Statement)
of_one [] = None
of_one (o ∷ []) = Some o.done
of_one (o ∷ p ∷ outer) = None

-- the statements of the template that was begun, where no line closed it, and nothing in it is open
abbrev pub statements_of : Draft → Option (List Statement)
statements_of d = if is_none d.templates then of_one d.stack else None

-- the lines behind the line of a template, up to its `end`, say this body. The template's name is no matter
abbrev pub body_said : List Word → Option (List Statement)
body_said lines =
    option_and_then statements_of (after_lines (begun (Template (codes "t") None)) (map body_line lines))

-- UTF-8 of at most 4,096 bytes
abbrev pub is_text : Word → Type 0
is_text line = (length line ≤ MAX_TEXT_BYTES) × IsUtf8 line
