-- The lines of the canonical text say the parts.
use Rattle.std.proofs.Common.{◌≡◌, ℕ, ◌+◌, List, [], ◌∷◌, ◌++◌, map, refl, ap, sym, subst, ◌∙◌, append_assoc, append-nil}
use Rattle.std.specs.Prelude.{Option, Some, None, Ok}
use Rattle.std.specs.List.{flat_map}
use Rattle.dup_template.specs.declared.site.Parts.{Parts}
use Rattle.dup_template.specs.declared.site.KindPart.{KindPart}
use Rattle.dup_template.specs.declared.site.TemplatePart.{TemplatePart}
use Rattle.dup_template.specs.declared.site.PageRule.{PageRule}
use Rattle.dup_template.specs.declared.statement.Statement.{Statement, roll-Statement}
use Rattle.dup_template.specs.declared.statement.Statement.TheOpen.{Statement-F}
use Rattle.dup_template.specs.declared.statement.Statement.TheFolds.{ind-Statement, fold-roll-Statement, map-Statement}
use Rattle.dup_site.specs.declared.site_line.SiteLine.{SiteLine}
use Rattle.dup_site.specs.declared.site_line.SiteLine.TheVariants as line
use Rattle.dup_site.specs.declared.site_line.Head.{Head}
use Rattle.dup_site.specs.declared.site_line.Head.TheVariants as head
use Rattle.dup_site.specs.Draft.{Draft, Open, blank, parts_of, opened, step, said_from, said, onward, close, finished}
use Rattle.dup_site.specs.Canonical.{statement_lines, template_lines, site_lines, lines_step}

-- an element more of what is open
abbrev pub grown : Open → List Statement → Open
grown o ss = record { head = o.head; done = o.done ++ ss }

abbrev pub after : Option Draft → (Draft → Option Draft) → Option Draft
after None rest = None
after (Some d) rest = rest d

abbrev pub steps : Draft → List SiteLine → Option Draft
steps d [] = Some d
steps d (l ∷ ls) = after (step d l) (λ e. steps e ls)

abbrev pub Lead : List SiteLine → List Statement → Type 0
Lead ls ss = (d : Draft) (o : Open) (outer : List Open) (rest : List SiteLine) →
    steps (opened d (o ∷ outer)) (ls ++ rest) ≡ steps (opened d (grown o ss ∷ outer)) rest

abbrev pub Leads : Statement → Type 0
Leads s = Lead (statement_lines s) (s ∷ [])

abbrev pub Kid : Type 0
Kid = (s : Statement) × Leads s

abbrev pub of_kids : List Kid → List Statement
of_kids body = map (λ e. e.0) body

abbrev pub body_lines : List Statement → List SiteLine
body_lines body = flat_map (λ b. b) (map statement_lines body)

pub body-leads : (body : List Kid) → Lead (body_lines (of_kids body)) (of_kids body)
body-leads [] d o outer rest = ap (λ ss. steps (opened d (record { head = o.head; done = ss } ∷ outer)) rest) (sym (append-nil o.done))
body-leads (e ∷ es) d o outer rest =
    ap (λ ls. steps (opened d (o ∷ outer)) ls) (append_assoc (statement_lines e.0) (body_lines (of_kids es)) rest)
    ∙ e.1 d o outer (body_lines (of_kids es) ++ rest)
    ∙ body-leads es d (grown o (e.0 ∷ [])) outer rest
    ∙ ap (λ ss. steps (opened d (record { head = o.head; done = ss } ∷ outer)) rest) (append_assoc o.done (e.0 ∷ []) (of_kids es))

-- what is enclosed comes as one statement
abbrev leads_enclosed : Head → List Statement → Statement → Type 0
leads_enclosed h body s = (d : Draft) (o : Open) (outer : List Open) (rest : List SiteLine) →
    steps (opened d (record { head = h; done = [] } ∷ (o ∷ outer))) (body_lines body ++ (line.End ∷ rest)) ≡ steps (opened d (grown o (s ∷ []) ∷ outer)) rest

pub within : (h : Head) (body : List Kid) (d : Draft) (outer : List Open) (rest : List SiteLine) →
    steps (opened d (record { head = h; done = [] } ∷ outer)) ((body_lines (of_kids body) ++ line.End ∷ []) ++ rest)
    ≡ after (close h (of_kids body) (opened d outer) outer) (λ e. steps e rest)
within h body d outer rest =
    ap (λ ls. steps (opened d (record { head = h; done = [] } ∷ outer)) ls) (append_assoc (body_lines (of_kids body)) (line.End ∷ []) rest)
    ∙ body-leads body d (record { head = h; done = [] }) outer (line.End ∷ rest)

abbrev below : Statement-F Kid → Statement-F (List SiteLine)
below (Statement-F.Say w) = Statement-F.Say w
below Statement-F.Nl = Statement-F.Nl
below (Statement-F.Field n) = Statement-F.Field n
below Statement-F.Key = Statement-F.Key
below (Statement-F.If n body) = Statement-F.If n (map statement_lines (of_kids body))
below (Statement-F.Each n by order body) = Statement-F.Each n by order (map statement_lines (of_kids body))
below (Statement-F.Embed n via) = Statement-F.Embed n via
below (Statement-F.Link n via body) = Statement-F.Link n via (map statement_lines (of_kids body))

abbrev rolled : Statement-F Kid → Statement
rolled y = roll-Statement (map-Statement Kid Statement (λ e. e.0) y)

step-leads : (y : Statement-F Kid) → Lead (lines_step (below y)) (rolled y ∷ [])
unfolding roll-Statement denote.Hole.Carrier.roll
step-leads (Statement-F.Say w) d o outer rest = refl
step-leads Statement-F.Nl d o outer rest = refl
step-leads (Statement-F.Field n) d o outer rest = refl
step-leads Statement-F.Key d o outer rest = refl
step-leads (Statement-F.If n body) d o outer rest = within (head.If n) body d (o ∷ outer) rest
step-leads (Statement-F.Each n by order body) d o outer rest = within (head.Each n by order) body d (o ∷ outer) rest
step-leads (Statement-F.Embed n via) d o outer rest = refl
step-leads (Statement-F.Link n via body) d o outer rest = within (head.Link n via) body d (o ∷ outer) rest

from_step : (y : Statement-F Kid) → Leads (rolled y)
from_step (Statement-F.Say w) d o outer rest = rw fold-roll-Statement (step-leads (Statement-F.Say w) d o outer rest)
from_step Statement-F.Nl d o outer rest = rw fold-roll-Statement (step-leads Statement-F.Nl d o outer rest)
from_step (Statement-F.Field n) d o outer rest = rw fold-roll-Statement (step-leads (Statement-F.Field n) d o outer rest)
from_step Statement-F.Key d o outer rest = rw fold-roll-Statement (step-leads Statement-F.Key d o outer rest)
from_step (Statement-F.If n body) d o outer rest = rw fold-roll-Statement (step-leads (Statement-F.If n body) d o outer rest)
from_step (Statement-F.Each n by order body) d o outer rest = rw fold-roll-Statement (step-leads (Statement-F.Each n by order body) d o outer rest)
from_step (Statement-F.Embed n via) d o outer rest = rw fold-roll-Statement (step-leads (Statement-F.Embed n via) d o outer rest)
from_step (Statement-F.Link n via body) d o outer rest = rw fold-roll-Statement (step-leads (Statement-F.Link n via body) d o outer rest)

pub statement-leads : (s : Statement) → Leads s
statement-leads = ind-Statement Leads (λ x y is. subst (λ z. Leads (roll-Statement z)) is (from_step y))

-- a body's lines come as its statements
pub kids : List Statement → List Kid
kids body = map (λ s. (s, statement-leads s)) body

pub of_kids-kids : (body : List Statement) → of_kids (kids body) ≡ body
unfolding kids
of_kids-kids [] = refl
of_kids-kids (s ∷ ss) = ap (λ xs. s ∷ xs) (of_kids-kids ss)

module _ (ks : List KindPart) where
  abbrev with_templates : List TemplatePart → Draft
  with_templates ts = record { kinds = ks; templates = ts; pages = []; stack = [] }

  template-leads : (t : TemplatePart) (ts : List TemplatePart) (rest : List SiteLine) →
      steps (with_templates ts) (template_lines t ++ rest) ≡ steps (with_templates (ts ++ t ∷ [])) rest
  template-leads t ts rest =
      subst (λ (b : List Statement). steps (with_templates ts) (template_lines (record { name = t.name; kind = t.kind; body = b }) ++ rest) ≡ steps (with_templates (ts ++ (record { name = t.name; kind = t.kind; body = b }) ∷ [])) rest)
      (of_kids-kids t.body)
      (within (head.Template t.name t.kind) (kids t.body) (with_templates ts) [] rest)

  templates-lead : (more ts : List TemplatePart) (rest : List SiteLine) →
      steps (with_templates ts) (flat_map template_lines more ++ rest) ≡ steps (with_templates (ts ++ more)) rest
  templates-lead [] ts rest = ap (λ xs. steps (with_templates xs) rest) (sym (append-nil ts))
  templates-lead (t ∷ more) ts rest =
      ap (λ ls. steps (with_templates ts) ls) (append_assoc (template_lines t) (flat_map template_lines more) rest)
      ∙ template-leads t ts (flat_map template_lines more ++ rest)
      ∙ templates-lead more (ts ++ t ∷ []) rest
      ∙ ap (λ xs. steps (with_templates xs) rest) (append_assoc ts (t ∷ []) more)

kinds-lead : (more ks : List KindPart) (rest : List SiteLine) →
    steps (with_templates ks []) (map (λ k. line.Kind k.name k.fields) more ++ rest) ≡ steps (with_templates (ks ++ more) []) rest
kinds-lead [] ks rest = ap (λ xs. steps (with_templates xs []) rest) (sym (append-nil ks))
kinds-lead (k ∷ more) ks rest =
    kinds-lead more (ks ++ k ∷ []) rest ∙ ap (λ xs. steps (with_templates xs []) rest) (append_assoc ks (k ∷ []) more)

abbrev whole : List KindPart → List TemplatePart → List PageRule → Draft
whole ks ts ps = record { kinds = ks; templates = ts; pages = ps; stack = [] }

pages-lead : (ks : List KindPart) (ts : List TemplatePart) (more ps : List PageRule) →
    steps (whole ks ts ps) (map line.Page more) ≡ Some (whole ks ts (ps ++ more))
pages-lead ks ts [] ps = ap (λ xs. Some (whole ks ts xs)) (sym (append-nil ps))
pages-lead ks ts (p ∷ more) ps =
    pages-lead ks ts more (ps ++ p ∷ []) ∙ ap (λ xs. Some (whole ks ts xs)) (append_assoc ps (p ∷ []) more)

site-leads : (site : Parts) → steps blank (site_lines site) ≡ Some (whole site.kinds site.templates site.pages)
site-leads site =
    kinds-lead site.kinds [] (flat_map template_lines site.templates ++ map line.Page site.pages)
    ∙ templates-lead site.kinds site.templates [] (map line.Page site.pages)
    ∙ pages-lead site.kinds site.templates site.pages []

onward-said : (n : ℕ) (o : Option Draft) (ls : List SiteLine) (e : Draft) →
    ((d : Draft) → steps d ls ≡ Some e → e.stack ≡ [] → said_from (n + 1) d (map Some ls) ≡ Ok (parts_of e)) →
    after o (λ x. steps x ls) ≡ Some e → e.stack ≡ [] → onward n o (λ x. said_from (n + 1) x (map Some ls)) ≡ Ok (parts_of e)
onward-said n None ls e more is none = cc
onward-said n (Some d) ls e more is none = more d is none

-- where each line may stand, what is said is the draft after them
pub steps-said : (n : ℕ) (d : Draft) (ls : List SiteLine) (e : Draft) → steps d ls ≡ Some e → e.stack ≡ [] → said_from n d (map Some ls) ≡ Ok (parts_of e)
steps-said n d [] e is none =
    let same : d ≡ e = cc in
    subst (λ (x : Draft). finished n x x.stack ≡ Ok (parts_of e)) (sym same) (ap (λ os. finished n e os) none)
steps-said n d (l ∷ ls) e is none = onward-said n (step d l) ls e (λ x. steps-said (n + 1) x ls e) is none

pub site_lines-said : (site : Parts) → said (map Some (site_lines site)) ≡ Ok site
site_lines-said site = steps-said 1 blank (site_lines site) (whole site.kinds site.templates site.pages) (site-leads site) refl
