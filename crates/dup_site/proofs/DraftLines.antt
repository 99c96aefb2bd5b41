-- The canonical lines of a draft: each line that may stand comes behind them.
use Rattle.std.proofs.Common.{◌≡◌, List, [], ◌∷◌, ◌++◌, map, refl, ap, sym, subst, ◌∙◌, append_assoc, append-nil}
use Rattle.std.specs.Prelude.{Option, Some}
use Rattle.std.specs.List.{flat_map}
use Rattle.dup_names.specs.Words.{Word}
use Rattle.dup_template.specs.declared.site.KindPart.{KindPart}
use Rattle.dup_template.specs.declared.site.PageRule.{PageRule}
use Rattle.dup_template.specs.declared.site.TemplatePart.{TemplatePart}
use Rattle.dup_template.specs.declared.statement.Statement.{Statement, roll-Statement}
use Rattle.dup_template.specs.declared.statement.Statement.TheFolds.{fold-roll-Statement, map-Statement}
use Rattle.dup_template.specs.declared.statement.Statement.TheOpen.{Statement-F}
use Rattle.dup_template.specs.declared.statement.Statement.TheVariants as statement
use Rattle.dup_site.specs.declared.site_line.SiteLine.{SiteLine}
use Rattle.dup_site.specs.declared.site_line.SiteLine.TheVariants as line
use Rattle.dup_site.specs.declared.site_line.Head.{Head}
use Rattle.dup_site.specs.declared.site_line.Head.TheVariants as head
use Rattle.dup_site.specs.Canonical.{lines_step, statement_lines, template_lines}
use Rattle.dup_site.specs.Draft.{Draft, Open, close, end, open_statement, open_template, opened, put, put_kind, put_page, put_template, step}

abbrev body_lines : List Statement → List SiteLine
body_lines body = flat_map (λ b. b) (map statement_lines body)

-- the lines of each statement
lines_of : (y : Statement-F Statement) → statement_lines (roll-Statement y) ≡ lines_step (map-Statement Statement (List SiteLine) statement_lines y)
lines_of y = rw fold-roll-Statement refl

say_lines : (words : Word) → statement_lines (statement.Say words) ≡ line.Say words ∷ []
unfolding roll-Statement denote.Hole.Carrier.roll
say_lines words = lines_of (Statement-F.Say words)

nl_lines : statement_lines statement.Nl ≡ line.Nl ∷ []
unfolding roll-Statement denote.Hole.Carrier.roll
nl_lines = lines_of Statement-F.Nl

field_lines : (f : Word) → statement_lines (statement.Field f) ≡ line.Field f ∷ []
unfolding roll-Statement denote.Hole.Carrier.roll
field_lines f = lines_of (Statement-F.Field f)

key_lines : statement_lines statement.Key ≡ line.Key ∷ []
unfolding roll-Statement denote.Hole.Carrier.roll
key_lines = lines_of Statement-F.Key

embed_lines : (name : Word) (via : Option Word) → statement_lines (statement.Embed name via) ≡ line.Embed name via ∷ []
unfolding roll-Statement denote.Hole.Carrier.roll
embed_lines name via = lines_of (Statement-F.Embed name via)

if_lines : (f : Word) (body : List Statement) → statement_lines (statement.If f body) ≡ line.Open (head.If f) ∷ (body_lines body ++ line.End ∷ [])
unfolding roll-Statement denote.Hole.Carrier.roll
if_lines f body = lines_of (Statement-F.If f body)

each_lines : (of : Word) (by order : Option Word) (body : List Statement) → statement_lines (statement.Each of by order body) ≡ line.Open (head.Each of by order) ∷ (body_lines body ++ line.End ∷ [])
unfolding roll-Statement denote.Hole.Carrier.roll
each_lines of by order body = lines_of (Statement-F.Each of by order body)

link_lines : (name : Word) (via : Option Word) (body : List Statement) → statement_lines (statement.Link name via body) ≡ line.Open (head.Link name via) ∷ (body_lines body ++ line.End ∷ [])
unfolding roll-Statement denote.Hole.Carrier.roll
link_lines name via body = lines_of (Statement-F.Link name via body)

abbrev stack_lines : List Open → List SiteLine
stack_lines [] = []
stack_lines (o ∷ outer) = stack_lines outer ++ (line.Open o.head ∷ body_lines o.done)

abbrev kind_lines : List KindPart → List SiteLine
kind_lines ks = map (λ k. line.Kind k.name k.fields) ks

-- the lines of what a draft has, and of what is open
abbrev pub draft_lines : Draft → List SiteLine
draft_lines d = kind_lines d.kinds ++ (flat_map template_lines d.templates ++ (map line.Page d.pages ++ stack_lines d.stack))

-- a line that says something
abbrev pub saying : SiteLine → List SiteLine
saying line.Blank = []
saying (line.Kind name fields) = line.Kind name fields ∷ []
saying (line.Page rule) = line.Page rule ∷ []
saying (line.Open h) = line.Open h ∷ []
saying (line.Say words) = line.Say words ∷ []
saying line.Nl = line.Nl ∷ []
saying (line.Field f) = line.Field f ∷ []
saying line.Key = line.Key ∷ []
saying (line.Embed name via) = line.Embed name via ∷ []
saying line.End = line.End ∷ []

-- no page stands while something is open
abbrev pub Fits : List Open → List PageRule → Type 0
Fits [] ps = Unit {0}
Fits (o ∷ outer) ps = ps ≡ []

-- a draft behind another, with these lines more
pub record Behind (d e : Draft) (more : List SiteLine) : Type 0 where
  pub fits : Fits e.stack e.pages
  pub lines : draft_lines e ≡ draft_lines d ++ more

behind_some : (d x e : Draft) (more : List SiteLine) → Behind d x more → Some x ≡ Some e → Behind d e more
behind_some d x e more b is = let same : x ≡ e = cc in subst (λ (y : Draft). Behind d y more) same b

-- more lines behind what is open
stack_more : (d : Draft) (os : List Open) (more : List SiteLine) → stack_lines os ≡ stack_lines d.stack ++ more → draft_lines (opened d os) ≡ draft_lines d ++ more
stack_more d os more is =
    let K = kind_lines d.kinds in
    let T = flat_map template_lines d.templates in
    let P = map line.Page d.pages in
    let S = stack_lines d.stack in
    ap (λ s. K ++ (T ++ (P ++ s))) is
    ∙ ap (λ s. K ++ (T ++ s)) (sym (append_assoc P S more))
    ∙ ap (λ s. K ++ s) (sym (append_assoc T (P ++ S) more))
    ∙ sym (append_assoc K (T ++ (P ++ S)) more)

body_snoc : (body : List Statement) (s : Statement) → body_lines (body ++ s ∷ []) ≡ body_lines body ++ statement_lines s
body_snoc [] s = append-nil (statement_lines s)
body_snoc (b ∷ body) s = ap (λ l. statement_lines b ++ l) (body_snoc body s) ∙ sym (append_assoc (statement_lines b) (body_lines body) (statement_lines s))

put_behind : (s : Statement) (d e : Draft) → Fits d.stack d.pages → put s d d.stack ≡ Some e → Behind d e (statement_lines s)
put_behind s d e fits is = by_stack d.stack refl fits is
  where
    by_stack : (os : List Open) → d.stack ≡ os → Fits os d.pages → put s d os ≡ Some e → Behind d e (statement_lines s)
    by_stack [] top fits is = absurd (cc)
    by_stack (o ∷ outer) top fits is =
        behind_some d (opened d (record { head = o.head; done = o.done ++ s ∷ [] } ∷ outer)) e (statement_lines s) (record {
          fits = fits;
          lines = stack_more d (record { head = o.head; done = o.done ++ s ∷ [] } ∷ outer) (statement_lines s)
              (ap (λ l. stack_lines outer ++ (line.Open o.head ∷ l)) (body_snoc o.done s)
              ∙ sym (append_assoc (stack_lines outer) (line.Open o.head ∷ body_lines o.done) (statement_lines s))
              ∙ ap (λ (l : List Open). stack_lines l ++ statement_lines s) (sym top));
        }) is

simple_behind : (s : Statement) (l : SiteLine) (d e : Draft) → statement_lines s ≡ l ∷ [] → Fits d.stack d.pages → put s d d.stack ≡ Some e → Behind d e (l ∷ [])
simple_behind s l d e is fits goes = subst (λ (ls : List SiteLine). Behind d e ls) is (put_behind s d e fits goes)

fits_outer : (outer : List Open) (ps : List PageRule) → ps ≡ [] → Fits outer ps
fits_outer [] ps none = tt
fits_outer (o ∷ outer) ps none = none

-- a statement that is closed
closed_behind : (o : Open) (outer : List Open) (s : Statement) (d e : Draft) → d.stack ≡ o ∷ outer → d.pages ≡ [] →
    statement_lines s ≡ line.Open o.head ∷ (body_lines o.done ++ line.End ∷ []) → put s (opened d outer) outer ≡ Some e → Behind d e (line.End ∷ [])
closed_behind o outer s d e top none is goes =
    let b : Behind (opened d outer) e (statement_lines s) = put_behind s (opened d outer) e (fits_outer outer d.pages none) goes in
    record {
      fits = b.fits;
      lines = b.lines ∙ ap (λ l. draft_lines (opened d outer) ++ l) is
          ∙ sym (append_assoc (draft_lines (opened d outer)) (line.Open o.head ∷ body_lines o.done) (line.End ∷ []))
          ∙ ap (λ l. l ++ line.End ∷ []) (sym (stack_more (opened d outer) (o ∷ outer) (line.Open o.head ∷ body_lines o.done) refl)
          ∙ ap (λ (os : List Open). draft_lines (opened d os)) (sym top));
    }

templates_snoc : (ts : List TemplatePart) (t : TemplatePart) → flat_map template_lines (ts ++ t ∷ []) ≡ flat_map template_lines ts ++ template_lines t
templates_snoc [] t = append-nil (template_lines t)
templates_snoc (u ∷ ts) t = ap (λ l. template_lines u ++ l) (templates_snoc ts t) ∙ sym (append_assoc (template_lines u) (flat_map template_lines ts) (template_lines t))

template_behind : (t : TemplatePart) (d e : Draft) → d.stack ≡ record { head = head.Template t.name t.kind; done = t.body } ∷ [] → d.pages ≡ [] →
    put_template t (opened d []) [] ≡ Some e → Behind d e (line.End ∷ [])
template_behind t d e top none is =
    let K = kind_lines d.kinds in
    let T = flat_map template_lines d.templates in
    behind_some d (record { kinds = d.kinds; templates = d.templates ++ t ∷ []; pages = d.pages; stack = [] }) e (line.End ∷ []) (record {
      fits = tt;
      lines = (λ i. K ++ (templates_snoc d.templates t i ++ (map line.Page (none i) ++ [])))
          ∙ ap (λ l. K ++ l) (append-nil (T ++ template_lines t))
          ∙ sym (append_assoc K T (template_lines t))
          ∙ sym (append_assoc (K ++ T) (line.Open (head.Template t.name t.kind) ∷ body_lines t.body) (line.End ∷ []))
          ∙ ap (λ l. l ++ line.End ∷ []) (append_assoc K T (line.Open (head.Template t.name t.kind) ∷ body_lines t.body))
          ∙ (λ i. (K ++ (T ++ (map line.Page (sym none i) ++ stack_lines (sym top i)))) ++ line.End ∷ []);
    }) is

end_behind : (d e : Draft) → Fits d.stack d.pages → end d d.stack ≡ Some e → Behind d e (line.End ∷ [])
end_behind d e fits is = by_stack d.stack refl fits is
  where
    by_stack : (os : List Open) → d.stack ≡ os → Fits os d.pages → end d os ≡ Some e → Behind d e (line.End ∷ [])
    by_stack [] top fits is = absurd (cc)
    by_stack (o ∷ outer) top fits is = by_head o.head refl is
      where
        by_template : (name : Word) (kind : Option Word) → o.head ≡ head.Template name kind → (os : List Open) → outer ≡ os →
            put_template (record { name = name; kind = kind; body = o.done }) (opened d outer) os ≡ Some e → Behind d e (line.End ∷ [])
        by_template name kind h (p ∷ ps) o_is goes = absurd (cc)
        by_template name kind h [] o_is goes =
            template_behind (record { name = name; kind = kind; body = o.done }) d e
            (top ∙ (λ i. record { head = h i; done = o.done } ∷ o_is i)) fits (sym (ap (λ (os : List Open). put_template (record { name = name; kind = kind; body = o.done }) (opened d os) []) o_is) ∙ goes)

        by_head : (h : Head) → o.head ≡ h → close h o.done (opened d outer) outer ≡ Some e → Behind d e (line.End ∷ [])
        by_head (head.Template name kind) h goes = by_template name kind h outer refl goes
        by_head (head.If f) h goes =
            closed_behind o outer (statement.If f o.done) d e top fits (if_lines f o.done ∙ ap (λ (x : Head). line.Open x ∷ (body_lines o.done ++ line.End ∷ [])) (sym h)) goes
        by_head (head.Each of by order) h goes =
            closed_behind o outer (statement.Each of by order o.done) d e top fits (each_lines of by order o.done ∙ ap (λ (x : Head). line.Open x ∷ (body_lines o.done ++ line.End ∷ [])) (sym h)) goes
        by_head (head.Link name via) h goes =
            closed_behind o outer (statement.Link name via o.done) d e top fits (link_lines name via o.done ∙ ap (λ (x : Head). line.Open x ∷ (body_lines o.done ++ line.End ∷ [])) (sym h)) goes

map_snoc : {A B : Type 0} (f : A → B) (xs : List A) (x : A) → map f (xs ++ x ∷ []) ≡ map f xs ++ f x ∷ []
map_snoc f [] x = refl
map_snoc f (y ∷ xs) x = ap (λ l. f y ∷ l) (map_snoc f xs x)

kind_behind : (k : KindPart) (d e : Draft) → put_kind k d d.stack d.templates d.pages ≡ Some e → Behind d e (line.Kind k.name k.fields ∷ [])
kind_behind k d e is = by_rest d.templates d.pages d.stack refl refl refl is
  where
    by_rest : (ts : List TemplatePart) (ps : List PageRule) (os : List Open) → d.templates ≡ ts → d.pages ≡ ps → d.stack ≡ os → put_kind k d os ts ps ≡ Some e → Behind d e (line.Kind k.name k.fields ∷ [])
    by_rest (t ∷ ts) ps os t_is p_is o_is goes = absurd (cc)
    by_rest [] (p ∷ ps) os t_is p_is o_is goes = absurd (cc)
    by_rest [] [] (o ∷ os) t_is p_is o_is goes = absurd (cc)
    by_rest [] [] [] t_is p_is o_is goes =
        let K = kind_lines d.kinds in
        let more = line.Kind k.name k.fields ∷ [] in
        behind_some d (record { kinds = d.kinds ++ k ∷ []; templates = d.templates; pages = d.pages; stack = [] }) e more (record {
          fits = tt;
          lines = (λ i. map_snoc (λ (x : KindPart). line.Kind x.name x.fields) d.kinds k i ++ (flat_map template_lines (t_is i) ++ (map line.Page (p_is i) ++ [])))
              ∙ append-nil (K ++ more)
              ∙ ap (λ l. l ++ more) (sym (append-nil K))
              ∙ (λ i. (K ++ (flat_map template_lines (sym t_is i) ++ (map line.Page (sym p_is i) ++ stack_lines (sym o_is i)))) ++ more);
        }) goes

page_behind : (p : PageRule) (d e : Draft) → put_page p d d.stack ≡ Some e → Behind d e (line.Page p ∷ [])
page_behind p d e is = by_stack d.stack refl is
  where
    by_stack : (os : List Open) → d.stack ≡ os → put_page p d os ≡ Some e → Behind d e (line.Page p ∷ [])
    by_stack (o ∷ os) o_is goes = absurd (cc)
    by_stack [] o_is goes =
        let K = kind_lines d.kinds in
        let T = flat_map template_lines d.templates in
        let P = map line.Page d.pages in
        let more = line.Page p ∷ [] in
        behind_some d (record { kinds = d.kinds; templates = d.templates; pages = d.pages ++ p ∷ []; stack = [] }) e more (record {
          fits = tt;
          lines = (λ i. K ++ (T ++ append-nil (map_snoc line.Page d.pages p i) i))
              ∙ ap (λ l. K ++ l) (sym (append_assoc T P more))
              ∙ sym (append_assoc K (T ++ P) more)
              ∙ ap (λ l. (K ++ (T ++ l)) ++ more) (sym (append-nil P))
              ∙ ap (λ (os : List Open). (K ++ (T ++ (P ++ stack_lines os))) ++ more) (sym o_is);
        }) goes

-- what is opened
opens_behind : (h : Head) (d : Draft) → d.pages ≡ [] → Behind d (opened d (record { head = h; done = [] } ∷ d.stack)) (line.Open h ∷ [])
opens_behind h d none = record { fits = none; lines = stack_more d (record { head = h; done = [] } ∷ d.stack) (line.Open h ∷ []) refl }

statement_behind : (h : Head) (d e : Draft) → Fits d.stack d.pages → open_statement h d d.stack ≡ Some e → Behind d e (line.Open h ∷ [])
statement_behind h d e fits is = by_stack d.stack refl fits is
  where
    by_stack : (os : List Open) → d.stack ≡ os → Fits os d.pages → open_statement h d os ≡ Some e → Behind d e (line.Open h ∷ [])
    by_stack [] o_is fits goes = absurd (cc)
    by_stack (o ∷ os) o_is fits goes =
        behind_some d (opened d (record { head = h; done = [] } ∷ d.stack)) e (line.Open h ∷ []) (opens_behind h d fits)
        (ap (λ (x : List Open). Some (opened d (record { head = h; done = [] } ∷ x))) o_is ∙ goes)

template_opens : (h : Head) (d e : Draft) → open_template h d d.stack d.pages ≡ Some e → Behind d e (line.Open h ∷ [])
template_opens h d e is = by_rest d.pages d.stack refl refl is
  where
    by_rest : (ps : List PageRule) (os : List Open) → d.pages ≡ ps → d.stack ≡ os → open_template h d os ps ≡ Some e → Behind d e (line.Open h ∷ [])
    by_rest (p ∷ ps) os p_is o_is goes = absurd (cc)
    by_rest [] (o ∷ os) p_is o_is goes = absurd (cc)
    by_rest [] [] p_is o_is goes =
        behind_some d (opened d (record { head = h; done = [] } ∷ d.stack)) e (line.Open h ∷ []) (opens_behind h d p_is)
        (ap (λ (x : List Open). Some (opened d (record { head = h; done = [] } ∷ x))) o_is ∙ goes)

pub step_behind : (d : Draft) (l : SiteLine) (e : Draft) → Fits d.stack d.pages → step d l ≡ Some e → Behind d e (saying l)
step_behind d line.Blank e fits is = behind_some d d e [] (record { fits = fits; lines = sym (append-nil (draft_lines d)) }) is
step_behind d (line.Kind name fields) e fits is = kind_behind (record { name = name; fields = fields }) d e is
step_behind d (line.Page rule) e fits is = page_behind rule d e is
step_behind d (line.Open (head.Template name kind)) e fits is = template_opens (head.Template name kind) d e is
step_behind d (line.Open (head.If f)) e fits is = statement_behind (head.If f) d e fits is
step_behind d (line.Open (head.Each of by order)) e fits is = statement_behind (head.Each of by order) d e fits is
step_behind d (line.Open (head.Link name via)) e fits is = statement_behind (head.Link name via) d e fits is
step_behind d (line.Say words) e fits is = simple_behind (statement.Say words) (line.Say words) d e (say_lines words) fits is
step_behind d line.Nl e fits is = simple_behind statement.Nl line.Nl d e nl_lines fits is
step_behind d (line.Field f) e fits is = simple_behind (statement.Field f) (line.Field f) d e (field_lines f) fits is
step_behind d line.Key e fits is = simple_behind statement.Key line.Key d e key_lines fits is
step_behind d (line.Embed name via) e fits is = simple_behind (statement.Embed name via) (line.Embed name via) d e (embed_lines name via) fits is
step_behind d line.End e fits is = end_behind d e fits is
