-- What the lines of a site text say, one line after another. The law above: `texts_law`.
use Rattle.std.specs.Prelude.{ℕ, ◌+◌, Bool, true, false, ◌&&◌, if◌then◌else◌, List, [], ◌∷◌, ◌++◌, Option}
use Rattle.std.specs.Prelude.{Some, None, Result, Ok, Err}
use Rattle.dup_template.specs.declared.site.Parts.{Parts}
use Rattle.dup_template.specs.declared.site.KindPart.{KindPart}
use Rattle.dup_template.specs.declared.site.TemplatePart.{TemplatePart}
use Rattle.dup_template.specs.declared.site.PageRule.{PageRule}
use Rattle.dup_template.specs.declared.statement.Statement.{Statement}
use Rattle.dup_template.specs.declared.statement.Statement.TheVariants as statement
use Rattle.dup_site.specs.declared.site_line.SiteLine.{SiteLine}
use Rattle.dup_site.specs.declared.site_line.SiteLine.TheVariants.{Blank, Kind, Page, Open as Opens, Say, Nl}
use Rattle.dup_site.specs.declared.site_line.SiteLine.TheVariants.{Field, Key, Embed, End}
use Rattle.dup_site.specs.declared.site_line.Head.{Head}
use Rattle.dup_site.specs.declared.site_line.Head.TheVariants.{Template, If, Each, Link}

-- a template or a statement that is open, and its statements so far
pub record Open : Type 0 where
  pub head : Head
  pub done : List Statement

-- the parts so far, and what is open, the innermost first
pub record Draft : Type 0 where
  pub kinds : List KindPart
  pub templates : List TemplatePart
  pub pages : List PageRule
  pub stack : List Open

abbrev pub blank : Draft
blank = record { kinds = []; templates = []; pages = []; stack = [] }

abbrev pub parts_of : Draft → Parts
parts_of d = record { kinds = d.kinds; templates = d.templates; pages = d.pages }

abbrev pub opened : Draft → List Open → Draft
opened d os = record { kinds = d.kinds; templates = d.templates; pages = d.pages; stack = os }

-- a statement more in what is open
abbrev pub put : Statement → Draft → List Open → Option Draft
put s d [] = None
put s d (o ∷ outer) = Some (opened d (record { head = o.head; done = o.done ++ s ∷ [] } ∷ outer))

abbrev pub put_template : TemplatePart → Draft → List Open → Option Draft
put_template t d [] =
    Some (record { kinds = d.kinds; templates = d.templates ++ t ∷ []; pages = d.pages; stack = [] })
put_template t d (o ∷ outer) = None

abbrev pub close : Head → List Statement → Draft → List Open → Option Draft
close (Template name kind) body d outer =
    put_template (record { name = name; kind = kind; body = body }) d outer
close (If f) body d outer = put (statement.If f body) d outer
close (Each of by order) body d outer = put (statement.Each of by order body) d outer
close (Link name via) body d outer = put (statement.Link name via body) d outer

abbrev pub end : Draft → List Open → Option Draft
end d [] = None
end d (o ∷ outer) = close o.head o.done (opened d outer) outer

abbrev pub is_none : {X : Type 0} → List X → Bool
is_none [] = true
is_none (x ∷ xs) = false

abbrev pub put_first : KindPart → Draft → List Open → Option Draft
put_first k d [] =
    Some (record { kinds = d.kinds ++ k ∷ []; templates = d.templates; pages = d.pages; stack = [] })
put_first k d (o ∷ outer) = None

-- all kinds stand before all templates
abbrev pub put_kind : KindPart → Draft → List Open → List TemplatePart → List PageRule → Option Draft
put_kind k d os ts ps = if is_none ts && is_none ps then put_first k d os else None

-- and all pages behind them
abbrev pub put_page : PageRule → Draft → List Open → Option Draft
put_page p d [] =
    Some (record { kinds = d.kinds; templates = d.templates; pages = d.pages ++ p ∷ []; stack = [] })
put_page p d (o ∷ outer) = None

abbrev pub open_first : Head → Draft → List Open → Option Draft
open_first h d [] = Some (opened d (record { head = h; done = [] } ∷ []))
open_first h d (o ∷ outer) = None

abbrev pub open_template : Head → Draft → List Open → List PageRule → Option Draft
open_template h d os ps = if is_none ps then open_first h d os else None

abbrev pub open_statement : Head → Draft → List Open → Option Draft
open_statement h d [] = None
open_statement h d (o ∷ outer) = Some (opened d (record { head = h; done = [] } ∷ (o ∷ outer)))

abbrev pub open_head : Head → Draft → Option Draft
open_head (Template name kind) d = open_template (Template name kind) d d.stack d.pages
open_head (If f) d = open_statement (If f) d d.stack
open_head (Each of by order) d = open_statement (Each of by order) d d.stack
open_head (Link name via) d = open_statement (Link name via) d d.stack

-- the draft with one line more, where the line may stand there
abbrev pub step : Draft → SiteLine → Option Draft
step d Blank = Some d
step d (Kind name fields) = put_kind (record { name = name; fields = fields }) d d.stack d.templates d.pages
step d (Page rule) = put_page rule d d.stack
step d (Opens head) = open_head head d
step d (Say words) = put (statement.Say words) d d.stack
step d Nl = put statement.Nl d d.stack
step d (Field f) = put (statement.Field f) d d.stack
step d Key = put statement.Key d d.stack
step d (Embed name via) = put (statement.Embed name via) d d.stack
step d End = end d d.stack

-- a line that isn't of any form is None
abbrev pub step_at : Draft → Option SiteLine → Option Draft
step_at d None = None
step_at d (Some line) = step d line

abbrev pub finished : ℕ → Draft → List Open → Result Parts ℕ
finished n d [] = Ok (parts_of d)
finished n d (o ∷ outer) = Err n

abbrev pub onward : ℕ → Option Draft → (Draft → Result Parts ℕ) → Result Parts ℕ
onward n None rest = Err n
onward n (Some d) rest = rest d

-- the parts that the lines say, or the number of the first line that may not stand where it stands; n: the
-- number of the first
abbrev pub said_from : ℕ → Draft → List (Option SiteLine) → Result Parts ℕ
said_from n d [] = finished n d d.stack
said_from n d (l ∷ ls) = onward n (step_at d l) (λ e. said_from (n + 1) e ls)

abbrev pub said : List (Option SiteLine) → Result Parts ℕ
said ls = said_from 1 blank ls
