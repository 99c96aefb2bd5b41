-- Lines say a body exactly where a template with these lines says it in a site text, and are its canonical lines.
use Rattle.std.proofs.Common.{◌≡◌, ℕ, ◌+◌, List, [], ◌∷◌, ◌++◌, map, refl, ap, ap₂, sym, subst, ◌∙◌}
use Rattle.std.specs.Prelude.{Bool, true, false, Option, Some, None, Result, Ok, codes, option_and_then, if◌then◌else◌}
use Rattle.std.specs.List.{flat_map, list_all}
use Rattle.std.proofs.lemmas.Bool.{and_from, and_parts}
use Rattle.std.proofs.lemmas.List.{map-append}
use Rattle.dup_names.specs.Grammar.{is_name}
use Rattle.dup_names.specs.LineWords.{trimmed}
use Rattle.dup_names.specs.Words.{Word}
use Rattle.dup_template.specs.declared.site.KindPart.{KindPart}
use Rattle.dup_template.specs.declared.site.PageRule.{PageRule}
use Rattle.dup_template.specs.declared.site.Parts.{Parts}
use Rattle.dup_template.specs.declared.site.TemplatePart.{TemplatePart}
use Rattle.dup_template.specs.declared.statement.Statement.{Statement}
use Rattle.dup_template.specs.declared.statement.Statement.TheVariants as statement
use Rattle.dup_site.specs.declared.site_line.SiteLine.{SiteLine}
use Rattle.dup_site.specs.declared.site_line.SiteLine.TheVariants as line
use Rattle.dup_site.specs.declared.site_line.Head.{Head}
use Rattle.dup_site.specs.declared.site_line.Head.TheVariants as head
use Rattle.dup_site.specs.BodiesInTexts.{BodiesAreCanonical, BodiesStandInTexts, one_template, template_text}
use Rattle.dup_site.specs.Draft.{Draft, Open, blank, close, end, finished, onward, opened, parts_of, put, said_from, step_at}
use Rattle.dup_site.specs.SaidBody.{after_lines, begun, body_line, body_said, is_one_line, statements_of}
use Rattle.dup_site.specs.SaidTexts.{plain_line}
use Rattle.dup_site.specs.Spelling.{is_named, line_of, line_text, text_says}
use Rattle.dup_site.proofs.BodyTexts.{body_steps, lines_same}
use Rattle.dup_site.proofs.DraftLines.{saying}
use Rattle.dup_site.proofs.LinesAgain.{line_written}
use Rattle.dup_site.proofs.LinesGoOn.{AreFree, lines_again}
use Rattle.dup_site.proofs.LinesSayParts.{body_lines}
use Rattle.dup_site.proofs.SaidBodies.{all_said, body_under, said_with, says_after, says_under, under_says}
use Rattle.dup_site.proofs.WrittenLines.{free-line, line-law}

-- a line of a body is one line
of_body : (bytes : Word) (l : SiteLine) → body_line bytes ≡ Some l → (is_one_line bytes ≡ true) × (line_of bytes ≡ Some l)
of_body bytes l is = by_test (is_one_line bytes) refl is
  where
    by_test : (b : Bool) → is_one_line bytes ≡ b → (if b then line_of bytes else None) ≡ Some l → (is_one_line bytes ≡ true) × (line_of bytes ≡ Some l)
    by_test true one is = (one, is)
    by_test false one is = absurd (cc)

-- what is said by a line and those behind it
parts_said : (o : Option SiteLine) (rest : Option (List SiteLine)) (all : List SiteLine) → said_with o rest ≡ Some all →
    (l : SiteLine) × ((more : List SiteLine) × ((o ≡ Some l) × ((rest ≡ Some more) × (saying l ++ more ≡ all))))
parts_said None rest all is = absurd (cc)
parts_said (Some l) None all is = absurd (cc)
parts_said (Some l) (Some more) all is = (l, (more, (refl, (refl, (let same : saying l ++ more ≡ all = cc in same)))))

one_lines : (lines : List Word) (all : List SiteLine) → all_said (map body_line lines) ≡ Some all → list_all is_one_line lines ≡ true
one_lines [] all is = refl
one_lines (w ∷ ws) all is =
    let p = parts_said (body_line w) (all_said (map body_line ws)) all is in
    and_from (is_one_line w) (list_all is_one_line ws) (of_body w p.0 p.1.1.0).0 (one_lines ws p.1.0 p.1.1.1.0)

same_lines : (lines : List Word) → list_all is_one_line lines ≡ true → map body_line lines ≡ map line_of lines
same_lines [] h = refl
same_lines (w ∷ ws) h =
    let both = and_parts (is_one_line w) (list_all is_one_line ws) h in
    ap₂ (λ x xs. x ∷ xs) (rw both.0 refl) (same_lines ws both.1)

free_lines : (lines : List Word) → list_all is_one_line lines ≡ true → AreFree (lines ++ codes "end" ∷ [])
free_lines [] h = (refl, tt)
free_lines (w ∷ ws) h =
    let both = and_parts (is_one_line w) (list_all is_one_line ws) h in
    (both.0, free_lines ws both.1)

-- the canonical lines are the plain ones
plain_said : (lines : List Word) (all : List SiteLine) → all_said (map body_line lines) ≡ Some all →
    flat_map (λ bytes. plain_line (trimmed bytes)) lines ≡ map line_text all
plain_said [] all is = let same : [] ≡ all = cc in ap (map line_text) same
plain_said (w ∷ ws) all is =
    let p = parts_said (body_line w) (all_said (map body_line ws)) all is in
    ap₂ (λ (xs ys : List Word). xs ++ ys) (line_written w p.0 (of_body w p.0 p.1.1.0).1) (plain_said ws p.1.0 p.1.1.1.0)
    ∙ sym (map-append line_text (saying p.0) p.1.0) ∙ ap (map line_text) p.1.1.1.1

pub bodies_are_canonical : BodiesAreCanonical
bodies_are_canonical lines body is =
    plain_said lines (body_lines body) (under_says (head.Template (codes "t") None) (map body_line lines) body is) ∙ lines_same body

-- the lines of the text of one template
text_lines_said : (name : Word) (kind : Option Word) (lines : List Word) → is_name name ≡ true → is_named kind ≡ true → list_all is_one_line lines ≡ true →
    text_says (template_text name kind lines) ≡ said_from 2 (begun (head.Template name kind)) (map line_of lines ++ Some line.End ∷ [])
text_lines_said name kind lines n k h =
    let spelled = and_from (is_name name) (is_named kind) n k in
    let first : SiteLine = line.Open (head.Template name kind) in
    ap (λ (ls : List Word). said_from 1 blank (map line_of ls)) (lines_again (line_text first ∷ (lines ++ codes "end" ∷ [])) (free-line first spelled, free_lines lines h))
    ∙ ap (λ o. said_from 1 blank (o ∷ map line_of (lines ++ codes "end" ∷ []))) (line-law first spelled)
    ∙ ap (said_from 2 (begun (head.Template name kind)))
    (map-append line_of lines (codes "end" ∷ []) ∙ ap (λ o. map line_of lines ++ o ∷ []) (line-law line.End refl))

-- where each line may stand, what is said is the draft behind them
gone_said : (n : ℕ) (d e : Draft) (ls : List (Option SiteLine)) → after_lines d ls ≡ Some e → e.stack ≡ [] → said_from n d ls ≡ Ok (parts_of e)
gone_said n d e [] is none =
    let same : d ≡ e = cc in
    subst (λ (x : Draft). finished n x x.stack ≡ Ok (parts_of e)) (sym same) (ap (λ os. finished n e os) none)
gone_said n d e (l ∷ ls) is none = by_step (step_at d l) (λ x. gone_said (n + 1) x e ls) is
  where
    by_step : (o : Option Draft) → ((x : Draft) → after_lines x ls ≡ Some e → e.stack ≡ [] → said_from (n + 1) x ls ≡ Ok (parts_of e)) →
        option_and_then (λ x. after_lines x ls) o ≡ Some e → onward n o (λ x. said_from (n + 1) x ls) ≡ Ok (parts_of e)
    by_step None onto is = absurd (cc)
    by_step (Some x) onto is = onto x is none

abbrev good : Parts → Result Parts ℕ
good parts = Ok parts

-- and the other way
record Said (d : Draft) (ls : List (Option SiteLine)) (parts : Parts) : Type 0 where
  pub draft : Draft
  pub goes : after_lines d ls ≡ Some draft
  pub closed : draft.stack ≡ []
  pub same : parts_of draft ≡ parts

said_gone : (n : ℕ) (d : Draft) (ls : List (Option SiteLine)) (parts : Parts) → said_from n d ls ≡ good parts → Said d ls parts
said_gone n d [] parts is = by_stack d.stack refl is
  where
    by_stack : (os : List Open) → d.stack ≡ os → finished n d os ≡ good parts → Said d [] parts
    by_stack [] none is = record { draft = d; goes = refl; closed = none; same = (let same : parts_of d ≡ parts = cc in same) }
    by_stack (o ∷ os) some is = absurd (cc)
said_gone n d (l ∷ ls) parts is = by_step (step_at d l) refl (λ x. said_gone (n + 1) x ls parts) is
  where
    by_step : (o : Option Draft) → step_at d l ≡ o → ((x : Draft) → said_from (n + 1) x ls ≡ good parts → Said x ls parts) →
        onward n o (λ x. said_from (n + 1) x ls) ≡ good parts → Said d (l ∷ ls) parts
    by_step None goes onto is = absurd (cc)
    by_step (Some x) goes onto is =
        let r : Said x ls parts = onto x is in
        record { draft = r.draft; goes = ap (option_and_then (λ e. after_lines e ls)) goes ∙ r.goes; closed = r.closed; same = r.same }

-- a last line `end`
ends_with : (ls : List (Option SiteLine)) (d : Draft) → after_lines d (ls ++ Some line.End ∷ []) ≡ option_and_then (λ e. end e e.stack) (after_lines d ls)
ends_with [] d = by_end (end d d.stack)
  where
    by_end : (o : Option Draft) → option_and_then (λ e. Some e) o ≡ o
    by_end None = refl
    by_end (Some e) = refl
ends_with (l ∷ ls) d = by_step (step_at d l) (ends_with ls)
  where
    by_step : (o : Option Draft) → ((e : Draft) → after_lines e (ls ++ Some line.End ∷ []) ≡ option_and_then (λ x. end x x.stack) (after_lines e ls)) →
        option_and_then (λ e. after_lines e (ls ++ Some line.End ∷ [])) o ≡ option_and_then (λ x. end x x.stack) (option_and_then (λ e. after_lines e ls) o)
    by_step None more = refl
    by_step (Some e) more = more e

abbrev templates_of : Option Draft → List TemplatePart
templates_of None = []
templates_of (Some d) = d.templates

abbrev stack_of : Option Draft → List Open
stack_of None = []
stack_of (Some d) = d.stack

no_more : {X : Type 0} (xs : List X) (x : X) → xs ++ x ∷ [] ≡ [] → ⊥
no_more [] x is = absurd (cc)
no_more (y ∷ xs) x is = absurd (cc)

abbrev whole : List KindPart → List TemplatePart → List PageRule → List Open → Draft
whole ks ts ps os = record { kinds = ks; templates = ts; pages = ps; stack = os }

-- a statement that is put leaves something open
put_opens : (s : Statement) (d e : Draft) (os : List Open) → put s d os ≡ Some e → e.stack ≡ [] → ⊥
put_opens s d e [] is closed = absurd (cc)
put_opens s d e (p ∷ os) is closed =
    absurd (let same : record { head = p.head; done = p.done ++ s ∷ [] } ∷ os ≡ [] = ap stack_of is ∙ closed in cc)

-- a template that is put and stands alone
put_alone : (t : TemplatePart) (name : Word) (kind : Option Word) (body : List Statement) (ks : List KindPart) (ts : List TemplatePart) (ps : List PageRule) (o : Open) →
    o.done ≡ t.body → ts ++ t ∷ [] ≡ (record { name = name; kind = kind; body = body }) ∷ [] → statements_of (whole ks ts ps (o ∷ [])) ≡ Some body
put_alone t name kind body ks [] ps o is alone =
    let same : t ≡ record { name = name; kind = kind; body = body } = cc in
    ap Some (is ∙ ap (λ (x : TemplatePart). x.body) same)
put_alone t name kind body ks (u ∷ ts) ps o is alone =
    absurd (let none : ts ++ t ∷ [] ≡ [] = cc in no_more ts t none)

-- what an `end` closes that leaves one template alone
closes_one : (name : Word) (kind : Option Word) (body : List Statement) (ks : List KindPart) (ts : List TemplatePart) (ps : List PageRule) (os : List Open) (e : Draft) →
    end (whole ks ts ps os) os ≡ Some e → e.stack ≡ [] → parts_of e ≡ one_template name kind body →
    statements_of (whole ks ts ps os) ≡ Some body
closes_one name kind body ks ts ps [] e is closed same = absurd (cc)
closes_one name kind body ks ts ps (o ∷ outer) e is closed same = by_head o.head outer refl is
  where
    by_head : (h : Head) (os : List Open) → outer ≡ os → close h o.done (opened (whole ks ts ps (o ∷ outer)) outer) os ≡ Some e → statements_of (whole ks ts ps (o ∷ outer)) ≡ Some body
    by_head (head.Template own of) [] is goes =
        let alone : ts ++ (record { name = own; kind = of; body = o.done }) ∷ [] ≡ (record { name = name; kind = kind; body = body }) ∷ [] =
        ap templates_of goes ∙ ap (λ (p : Parts). p.templates) same in
        ap (λ (os : List Open). statements_of (whole ks ts ps (o ∷ os))) is
        ∙ put_alone (record { name = own; kind = of; body = o.done }) name kind body ks ts ps o refl alone
    by_head (head.Template own of) (p ∷ os) is goes = absurd (cc)
    by_head (head.If f) os is goes = absurd (put_opens (statement.If f o.done) (opened (whole ks ts ps (o ∷ outer)) outer) e os goes closed)
    by_head (head.Each of by order) os is goes = absurd (put_opens (statement.Each of by order o.done) (opened (whole ks ts ps (o ∷ outer)) outer) e os goes closed)
    by_head (head.Link own via) os is goes = absurd (put_opens (statement.Link own via o.done) (opened (whole ks ts ps (o ∷ outer)) outer) e os goes closed)

closed_says : (name : Word) (kind : Option Word) (body : List Statement) (o : Option Draft) (e : Draft) →
    option_and_then (λ x. end x x.stack) o ≡ Some e → e.stack ≡ [] → parts_of e ≡ one_template name kind body → option_and_then statements_of o ≡ Some body
closed_says name kind body None e is closed same = absurd (cc)
closed_says name kind body (Some x) e is closed same = closes_one name kind body x.kinds x.templates x.pages x.stack e is closed same

from_text : (name : Word) (kind : Option Word) (lines : List Word) (body : List Statement) → is_name name ≡ true → is_named kind ≡ true →
    list_all is_one_line lines ≡ true → text_says (template_text name kind lines) ≡ good (one_template name kind body) → body_said lines ≡ Some body
from_text name kind lines body n k h says =
    let h0 : Head = head.Template name kind in
    let r : Said (begun h0) (map line_of lines ++ Some line.End ∷ []) (one_template name kind body) =
    said_gone 2 (begun h0) (map line_of lines ++ Some line.End ∷ []) (one_template name kind body) (sym (text_lines_said name kind lines n k h) ∙ says) in
    let under : body_under h0 (map line_of lines) ≡ Some body =
    closed_says name kind body (after_lines (begun h0) (map line_of lines)) r.draft (sym (ends_with (map line_of lines) (begun h0)) ∙ r.goes) r.closed r.same in
    ap (body_under (head.Template (codes "t") None)) (same_lines lines h)
    ∙ says_under (head.Template (codes "t") None) (map line_of lines) body (under_says h0 (map line_of lines) body under)

to_text : (name : Word) (kind : Option Word) (lines : List Word) (body : List Statement) → is_name name ≡ true → is_named kind ≡ true →
    body_said lines ≡ Some body → (list_all is_one_line lines ≡ true) × (text_says (template_text name kind lines) ≡ good (one_template name kind body))
to_text name kind lines body n k is =
    let h0 : Head = head.Template name kind in
    let says : all_said (map body_line lines) ≡ Some (body_lines body) = under_says (head.Template (codes "t") None) (map body_line lines) body is in
    let h : list_all is_one_line lines ≡ true = one_lines lines (body_lines body) says in
    let after : after_lines (begun h0) (map line_of lines) ≡ Some (opened blank (record { head = h0; done = body } ∷ [])) =
    says_after h0 (map line_of lines) body (ap all_said (sym (same_lines lines h)) ∙ says) ∙ body_steps h0 body in (
      h,
      text_lines_said name kind lines n k h
          ∙ gone_said 2 (begun h0) (whole [] ((record { name = name; kind = kind; body = body }) ∷ []) [] []) (map line_of lines ++ Some line.End ∷ [])
          (ends_with (map line_of lines) (begun h0) ∙ ap (option_and_then (λ x. end x x.stack)) after) refl,
    )

pub bodies_stand_in_texts : BodiesStandInTexts
bodies_stand_in_texts name kind lines body n k = (to_text name kind lines body n k, λ both. from_text name kind lines body n k both.0 both.1)
