-- The canonical lines of a body are texts, and say it.
use Rattle.std.proofs.Common.{◌≡◌, ◌≤◌, List, [], ◌∷◌, ◌++◌, map, refl, ap, ap₂, sym, subst, ◌∙◌, arith, append-nil}
use Rattle.std.specs.Prelude.{Bool, true, false, Option, Some, None, codes, option_and_then, if◌then◌else◌, IsUtf8}
use Rattle.std.specs.List.{AllByRecursion, list_all}
use Rattle.std.specs.Str.{is_utf8}
use Rattle.std.proofs.lemmas.Bool.{and_parts}
use Rattle.std.proofs.lemmas.List.{map-append}
use Rattle.std.proofs.lemmas.Str.{IsUtf8-from_is_utf8}
use Rattle.dup_names.specs.Words.{Word}
use Rattle.dup_names.specs.Lines.{text_lines}
use Rattle.dup_names.specs.LineWords.{trimmed}
use Rattle.dup_names.specs.declared.limits.TheConstants.{MAX_TEXT_BYTES}
use Rattle.dup_template.specs.BodyLines.{body_text, between, longest_of, statement_text, text_step}
use Rattle.dup_template.specs.declared.statement.Statement.{Statement, roll-Statement}
use Rattle.dup_template.specs.declared.statement.Statement.TheOpen.{Statement-F}
use Rattle.dup_template.specs.declared.statement.Statement.TheFolds.{ind-Statement, fold-roll-Statement, map-Statement}
use Rattle.dup_site.specs.declared.site_line.SiteLine.{SiteLine}
use Rattle.dup_site.specs.declared.site_line.SiteLine.TheVariants as line
use Rattle.dup_site.specs.declared.site_line.Head.{Head}
use Rattle.dup_site.specs.declared.site_line.Head.TheVariants as head
use Rattle.dup_site.specs.Canonical.{enclosed, lines_step, statement_lines}
use Rattle.dup_site.specs.Draft.{Draft, blank, opened, step}
use Rattle.dup_site.specs.Spelling.{are_spelled, by_start, is_spelled, line_of, line_text, texts}
use Rattle.dup_site.specs.SaidBody.{after_lines, begun, body_line, body_said, is_text, statements_of}
use Rattle.dup_site.proofs.LinesSayParts.{after, body_lines, body-leads, kids, of_kids-kids, steps}
use Rattle.dup_site.proofs.WrittenLines.{free-line, line-law, lines-written}

-- a statement's lines are written as its texts
abbrev Same : Statement → Type 0
Same s = map line_text (statement_lines s) ≡ statement_text s

abbrev Kid : Type 0
Kid = (s : Statement) × Same s

abbrev of_kids : List Kid → List Statement
of_kids body = map (λ e. e.0) body

body-same : (body : List Kid) → map line_text (body_lines (of_kids body)) ≡ body_text (of_kids body)
body-same [] = refl
body-same (e ∷ es) = map-append line_text (statement_lines e.0) (body_lines (of_kids es)) ∙ ap₂ (λ xs ys. xs ++ ys) e.1 (body-same es)

within-same : (l : SiteLine) (body : List Kid) → map line_text (enclosed l (map statement_lines (of_kids body))) ≡ between (line_text l) (map statement_text (of_kids body))
within-same l body =
    ap (λ (xs : List Word). line_text l ∷ xs)
    (map-append line_text (body_lines (of_kids body)) (line.End ∷ []) ∙ ap (λ (xs : List Word). xs ++ codes "end" ∷ []) (body-same body))

abbrev below : {X : Type 0} → (Statement → X) → Statement-F Kid → Statement-F X
below f (Statement-F.Say w) = Statement-F.Say w
below f Statement-F.Nl = Statement-F.Nl
below f (Statement-F.Field n) = Statement-F.Field n
below f Statement-F.Key = Statement-F.Key
below f (Statement-F.If n body) = Statement-F.If n (map f (of_kids body))
below f (Statement-F.Each n by order body) = Statement-F.Each n by order (map f (of_kids body))
below f (Statement-F.Embed n via) = Statement-F.Embed n via
below f (Statement-F.Link n via body) = Statement-F.Link n via (map f (of_kids body))

abbrev rolled : Statement-F Kid → Statement
rolled y = roll-Statement (map-Statement Kid Statement (λ e. e.0) y)

step-same : (y : Statement-F Kid) → map line_text (lines_step (below statement_lines y)) ≡ text_step (below statement_text y)
step-same (Statement-F.Say w) = refl
step-same Statement-F.Nl = refl
step-same (Statement-F.Field n) = refl
step-same Statement-F.Key = refl
step-same (Statement-F.If n body) = within-same (line.Open (head.If n)) body
step-same (Statement-F.Each n by order body) = within-same (line.Open (head.Each n by order)) body
step-same (Statement-F.Embed n via) = refl
step-same (Statement-F.Link n via body) = within-same (line.Open (head.Link n via)) body

from_both : (y : Statement-F Statement) →
    map line_text (lines_step (map-Statement Statement (List SiteLine) statement_lines y)) ≡ text_step (map-Statement Statement (List Word) statement_text y) → Same (roll-Statement y)
from_both y is =
    let lines : statement_lines (roll-Statement y) ≡ lines_step (map-Statement Statement (List SiteLine) statement_lines y) = rw fold-roll-Statement refl in
    let words : statement_text (roll-Statement y) ≡ text_step (map-Statement Statement (List Word) statement_text y) = rw fold-roll-Statement refl in
    ap (map line_text) lines ∙ is ∙ sym words

from_step : (y : Statement-F Kid) → Same (rolled y)
from_step (Statement-F.Say w) = from_both (Statement-F.Say w) (step-same (Statement-F.Say w))
from_step Statement-F.Nl = from_both Statement-F.Nl (step-same Statement-F.Nl)
from_step (Statement-F.Field n) = from_both (Statement-F.Field n) (step-same (Statement-F.Field n))
from_step Statement-F.Key = from_both Statement-F.Key (step-same Statement-F.Key)
from_step (Statement-F.If n body) = from_both (Statement-F.If n (of_kids body)) (step-same (Statement-F.If n body))
from_step (Statement-F.Each n by order body) = from_both (Statement-F.Each n by order (of_kids body)) (step-same (Statement-F.Each n by order body))
from_step (Statement-F.Embed n via) = from_both (Statement-F.Embed n via) (step-same (Statement-F.Embed n via))
from_step (Statement-F.Link n via body) = from_both (Statement-F.Link n via (of_kids body)) (step-same (Statement-F.Link n via body))

statement-same : (s : Statement) → Same s
statement-same = ind-Statement Same (λ x y is. subst (λ z. Same (roll-Statement z)) is (from_step y))

pub lines_same : (body : List Statement) → map line_text (body_lines body) ≡ body_text body
lines_same [] = refl
lines_same (s ∷ ss) = map-append line_text (statement_lines s) (body_lines ss) ∙ ap₂ (λ xs ys. xs ++ ys) (statement-same s) (lines_same ss)

-- a line that says something is UTF-8
utf8_said : (bytes : Word) (l : SiteLine) → line_of bytes ≡ Some l → IsUtf8 bytes
utf8_said bytes l is = IsUtf8-from_is_utf8 bytes (by_test (is_utf8 bytes) is)
  where
    by_test : (b : Bool) → (if b then by_start (trimmed bytes) else None) ≡ Some l → b ≡ true
    by_test true is = refl
    by_test false is = absurd (cc)

written_texts : (ls : List SiteLine) → are_spelled ls → longest_of (map line_text ls) ≤ MAX_TEXT_BYTES → AllByRecursion is_text (map line_text ls)
written_texts [] h fits = tt
written_texts (l ∷ ls) h fits =
    let both = and_parts (is_spelled l) (list_all is_spelled ls) h in
    ((omega (arith, fits), utf8_said (line_text l) l (line-law l both.0)), written_texts ls both.1 (omega (arith, fits)))

-- the text of a body's lines
pub body_texts : (body : List Statement) (text : Word) → text ≡ texts (body_lines body) → are_spelled (body_lines body) → text_lines text ≡ body_text body
body_texts body text is h = ap text_lines is ∙ lines-written (body_lines body) h ∙ lines_same body

pub texts_fit : (body : List Statement) (text : Word) → text ≡ texts (body_lines body) → are_spelled (body_lines body) →
    longest_of (body_text body) ≤ MAX_TEXT_BYTES → AllByRecursion is_text (text_lines text)
texts_fit body text is h fits =
    subst (λ (ls : List Word). AllByRecursion is_text ls) (sym (ap text_lines is ∙ lines-written (body_lines body) h))
    (written_texts (body_lines body) h (subst (λ (ls : List Word). longest_of ls ≤ MAX_TEXT_BYTES) (sym (lines_same body)) fits))

lines_read : (ls : List SiteLine) → are_spelled ls → map body_line (map line_text ls) ≡ map Some ls
lines_read [] h = refl
lines_read (l ∷ ls) h =
    let both = and_parts (is_spelled l) (list_all is_spelled ls) h in
    ap₂ (λ x xs. x ∷ xs) (rw (free-line l both.0) (line-law l both.0)) (lines_read ls both.1)

pub after_steps : (d : Draft) (ls : List SiteLine) → after_lines d (map Some ls) ≡ steps d ls
after_steps d [] = refl
after_steps d (l ∷ ls) = by_step (step d l) (λ e. after_steps e ls)
  where
    by_step : (o : Option Draft) → ((e : Draft) → after_lines e (map Some ls) ≡ steps e ls) → option_and_then (λ e. after_lines e (map Some ls)) o ≡ after o (λ e. steps e ls)
    by_step None more = refl
    by_step (Some e) more = more e

-- behind the lines of a body its statements stand in what was begun
pub body_steps : (h : Head) (body : List Statement) → steps (begun h) (body_lines body) ≡ Some (opened blank (record { head = h; done = body } ∷ []))
body_steps h body =
    ap (steps (begun h)) (sym (append-nil (body_lines body)))
    ∙ subst (λ (b : List Statement). steps (begun h) (body_lines b ++ []) ≡ Some (opened blank (record { head = h; done = b } ∷ []))) (of_kids-kids body)
    (body-leads (kids body) blank (record { head = h; done = [] }) [] [])

pub said_again : (body : List Statement) → are_spelled (body_lines body) → body_said (body_text body) ≡ Some body
said_again body h =
    ap (λ (ls : List Word). body_said ls) (sym (lines_same body))
    ∙ ap (λ ls. option_and_then statements_of (after_lines (begun (head.Template (codes "t") None)) ls)) (lines_read (body_lines body) h)
    ∙ ap (option_and_then statements_of) (after_steps (begun (head.Template (codes "t") None)) (body_lines body) ∙ body_steps (head.Template (codes "t") None) body)
