-- Lines say a body exactly where those of them that say something are its canonical lines.
use Rattle.std.proofs.Common.{◌≡◌, List, [], ◌∷◌, ◌++◌, refl, ap, sym, subst, ◌∙◌, append_assoc, append-nil}
use Rattle.std.specs.Prelude.{Option, Some, None, option_map, option_and_then}
use Rattle.dup_template.specs.declared.site.KindPart.{KindPart}
use Rattle.dup_template.specs.declared.site.PageRule.{PageRule}
use Rattle.dup_template.specs.declared.site.TemplatePart.{TemplatePart}
use Rattle.dup_template.specs.declared.statement.Statement.{Statement}
use Rattle.dup_site.specs.declared.site_line.SiteLine.{SiteLine}
use Rattle.dup_site.specs.declared.site_line.SiteLine.TheVariants as line
use Rattle.dup_site.specs.declared.site_line.Head.{Head}
use Rattle.dup_site.specs.Draft.{Draft, Open, step}
use Rattle.dup_site.specs.SaidBody.{after_lines, begun, statements_of}
use Rattle.dup_site.proofs.BodyTexts.{body_steps}
use Rattle.dup_site.proofs.DraftLines.{Behind, Fits, draft_lines, saying, step_behind}
use Rattle.dup_site.proofs.LinesSayParts.{after, body_lines, steps}

abbrev pub said_with : Option SiteLine → Option (List SiteLine) → Option (List SiteLine)
said_with None rest = None
said_with (Some l) rest = option_map (λ more. saying l ++ more) rest

-- the lines that say something, where each has a form
abbrev pub all_said : List (Option SiteLine) → Option (List SiteLine)
all_said [] = Some []
all_said (l ∷ ls) = said_with l (all_said ls)

-- a draft behind another, with what these lines say
record Gone (ls : List (Option SiteLine)) (d e : Draft) : Type 0 where
  pub more : List SiteLine
  pub says : all_said ls ≡ Some more
  pub behind : Behind d e more

gone : (ls : List (Option SiteLine)) (d e : Draft) → Fits d.stack d.pages → after_lines d ls ≡ Some e → Gone ls d e
gone [] d e fits is =
    let same : d ≡ e = cc in
    subst (λ (x : Draft). Gone [] d x) same (record { more = []; says = refl; behind = record { fits = fits; lines = sym (append-nil (draft_lines d)) } })
gone (None ∷ ls) d e fits is = absurd (cc)
gone (Some l ∷ ls) d e fits is = by_step (step d l) refl (λ x f. gone ls x e f) is
  where
    by_step : (o : Option Draft) → step d l ≡ o → ((x : Draft) → Fits x.stack x.pages → after_lines x ls ≡ Some e → Gone ls x e) →
        option_and_then (λ x. after_lines x ls) o ≡ Some e → Gone (Some l ∷ ls) d e
    by_step None goes onto is = absurd (cc)
    by_step (Some x) goes onto is =
        let b : Behind d x (saying l) = step_behind d l x fits goes in
        let r : Gone ls x e = onto x b.fits is in
        record {
          more = saying l ++ r.more;
          says = ap (option_map (λ more. saying l ++ more)) r.says;
          behind = record {
            fits = r.behind.fits;
            lines = r.behind.lines ∙ ap (λ (xs : List SiteLine). xs ++ r.more) b.lines ∙ append_assoc (draft_lines d) (saying l) r.more;
          };
        }

saying_steps : (l : SiteLine) (d : Draft) (more : List SiteLine) → steps d (saying l ++ more) ≡ after (step d l) (λ e. steps e more)
saying_steps line.Blank d more = refl
saying_steps (line.Kind name fields) d more = refl
saying_steps (line.Page rule) d more = refl
saying_steps (line.Open h) d more = refl
saying_steps (line.Say words) d more = refl
saying_steps line.Nl d more = refl
saying_steps (line.Field f) d more = refl
saying_steps line.Key d more = refl
saying_steps (line.Embed name via) d more = refl
saying_steps line.End d more = refl

-- a line that says nothing is no matter
skips : (ls : List (Option SiteLine)) (more : List SiteLine) (d : Draft) → all_said ls ≡ Some more → after_lines d ls ≡ steps d more
skips [] more d is = let same : [] ≡ more = cc in ap (steps d) same
skips (None ∷ ls) more d is = absurd (cc)
skips (Some l ∷ ls) more d is = by_rest (all_said ls) (λ m e s. skips ls m e s) refl is
  where
    by_step : (m : List SiteLine) (o : Option Draft) → ((e : Draft) → after_lines e ls ≡ steps e m) → option_and_then (λ e. after_lines e ls) o ≡ after o (λ e. steps e m)
    by_step m None rest = refl
    by_step m (Some e) rest = rest e

    by_rest : (o : Option (List SiteLine)) → ((m : List SiteLine) (e : Draft) → all_said ls ≡ Some m → after_lines e ls ≡ steps e m) → all_said ls ≡ o →
        option_map (λ m. saying l ++ m) o ≡ Some more → option_and_then (λ e. after_lines e ls) (step d l) ≡ steps d more
    by_rest None rest so is = absurd (cc)
    by_rest (Some m) rest so is =
        let same : saying l ++ m ≡ more = cc in
        by_step m (step d l) (λ e. rest m e so) ∙ sym (saying_steps l d m) ∙ ap (steps d) same

-- what lines say behind the line of this template
abbrev pub body_under : Head → List (Option SiteLine) → Option (List Statement)
body_under h ls = option_and_then statements_of (after_lines (begun h) ls)

pub under_says : (h : Head) (ls : List (Option SiteLine)) (body : List Statement) → body_under h ls ≡ Some body → all_said ls ≡ Some (body_lines body)
under_says h ls body is = by_draft (after_lines (begun h) ls) refl is
  where
    by_lines : (ks : List KindPart) (o : Open) → Gone ls (begun h) (record { kinds = ks; templates = []; pages = []; stack = o ∷ [] }) → o.done ≡ body → all_said ls ≡ Some (body_lines body)
    by_lines [] o g is =
        let ends : body_lines o.done ≡ g.more = (let lines : line.Open o.head ∷ body_lines o.done ≡ line.Open h ∷ g.more = g.behind.lines in cc) in
        g.says ∙ ap Some (sym ends ∙ ap body_lines is)
    by_lines (k ∷ ks) o g is =
        absurd (let lines : line.Kind k.name k.fields ∷ _ ≡ line.Open h ∷ g.more = g.behind.lines in cc)

    by_parts : (ks : List KindPart) (ts : List TemplatePart) (ps : List PageRule) (os : List Open) →
        Gone ls (begun h) (record { kinds = ks; templates = ts; pages = ps; stack = os }) → statements_of (record { kinds = ks; templates = ts; pages = ps; stack = os }) ≡ Some body →
        all_said ls ≡ Some (body_lines body)
    by_parts ks (t ∷ ts) ps os g is = absurd (cc)
    by_parts ks [] ps [] g is = absurd (cc)
    by_parts ks [] ps (o ∷ p ∷ os) g is = absurd (cc)
    by_parts ks [] (p ∷ ps) (o ∷ []) g is = absurd (let none : p ∷ ps ≡ [] = g.behind.fits in cc)
    by_parts ks [] [] (o ∷ []) g is = by_lines ks o g (let same : o.done ≡ body = cc in same)

    by_draft : (o : Option Draft) → after_lines (begun h) ls ≡ o → option_and_then statements_of o ≡ Some body → all_said ls ≡ Some (body_lines body)
    by_draft None goes is = absurd (cc)
    by_draft (Some e) goes is = by_parts e.kinds e.templates e.pages e.stack (gone ls (begun h) e refl goes) is

pub says_after : (h : Head) (ls : List (Option SiteLine)) (body : List Statement) → all_said ls ≡ Some (body_lines body) →
    after_lines (begun h) ls ≡ steps (begun h) (body_lines body)
says_after h ls body is = skips ls (body_lines body) (begun h) is

pub says_under : (h : Head) (ls : List (Option SiteLine)) (body : List Statement) → all_said ls ≡ Some (body_lines body) → body_under h ls ≡ Some body
says_under h ls body is = ap (option_and_then statements_of) (says_after h ls body is ∙ body_steps h body)
