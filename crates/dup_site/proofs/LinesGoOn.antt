-- Up to its first bad line a text can go on to one that says parts: what is open is closed.
use Rattle.std.proofs.Common.{◌≡◌, ℕ, zero, suc, ◌+◌, ◌≤◌, List, [], ◌∷◌, ◌++◌, map, length, take, refl, ap, sym, subst, ◌∙◌, arith}
use Rattle.std.specs.Prelude.{Bool, true, false, not, Option, Some, None, Ok, codes, if◌then◌else◌}
use Rattle.std.specs.List.{AllByRecursion, flat_map, onto_first, slice_split}
use Rattle.std.proofs.lemmas.Bool.{and_from, true≢false}
use Rattle.dup_names.specs.LineWords.{is_empty}
use Rattle.dup_names.specs.Lines.{is_feed, text_lines, without_last}
use Rattle.dup_names.specs.Words.{Word}
use Rattle.dup_template.specs.declared.site.KindPart.{KindPart}
use Rattle.dup_template.specs.declared.site.PageRule.{PageRule}
use Rattle.dup_template.specs.declared.site.Parts.{Parts}
use Rattle.dup_template.specs.declared.site.TemplatePart.{TemplatePart}
use Rattle.dup_template.specs.declared.statement.Statement.{Statement}
use Rattle.dup_template.specs.declared.statement.Statement.TheVariants as statement
use Rattle.dup_site.specs.declared.site_line.Head.{Head}
use Rattle.dup_site.specs.declared.site_line.Head.TheVariants as head
use Rattle.dup_site.specs.declared.site_line.SiteLine.{SiteLine}
use Rattle.dup_site.specs.declared.site_line.SiteLine.TheVariants as line
use Rattle.dup_site.specs.Draft.{Draft, Open, blank, close, end, finished, is_none, onward, open_statement, open_template, opened, parts_of, put, put_kind, put_page, put_template, said_from, step, step_at}
use Rattle.dup_site.specs.SaidTexts.{LinesGoOn}
use Rattle.dup_site.specs.Spelling.{line_of}
use Rattle.dup_site.proofs.BadLines.{bad, same_number}
use Rattle.dup_site.proofs.WrittenLines.{is_free, line-law, split-feed, without-cons}

is_template : Head → Bool
is_template (head.Template name kind) = true
is_template _ = false

-- a template is open outermost, and statements within
IsNest : List Open → Type 0
IsNest [] = Unit {0}
IsNest (o ∷ outer) = (is_template o.head ≡ is_none outer) × IsNest outer

abbrev Nests : Option Draft → Type 0
Nests o = (e : Draft) → o ≡ Some e → IsNest e.stack

nest_some : (d : Draft) → IsNest d.stack → Nests (Some d)
nest_some d n e is = let same : d ≡ e = cc in subst (λ (x : Draft). IsNest x.stack) same n

nest_none : Nests None
nest_none e is = absurd (cc)

nest_put : (s : Statement) (d : Draft) (os : List Open) → IsNest os → Nests (put s d os)
unfolding IsNest
nest_put s d [] n = nest_none
nest_put s d (o ∷ outer) n = nest_some (opened d (record { head = o.head; done = o.done ++ s ∷ [] } ∷ outer)) n

nest_end : (d : Draft) (os : List Open) → IsNest os → Nests (end d os)
unfolding IsNest
nest_end d [] n = nest_none
nest_end d (o ∷ outer) n = by_head o.head
  where
    by_template : (t : TemplatePart) (os : List Open) → Nests (put_template t (opened d outer) os)
    by_template t [] = nest_some (record { kinds = d.kinds; templates = d.templates ++ t ∷ []; pages = d.pages; stack = [] }) tt
    by_template t (p ∷ ps) = nest_none

    by_head : (h : Head) → Nests (close h o.done (opened d outer) outer)
    by_head (head.Template name kind) = by_template (record { name = name; kind = kind; body = o.done }) outer
    by_head (head.If f) = nest_put (statement.If f o.done) (opened d outer) outer n.1
    by_head (head.Each of by order) = nest_put (statement.Each of by order o.done) (opened d outer) outer n.1
    by_head (head.Link name via) = nest_put (statement.Link name via o.done) (opened d outer) outer n.1

nest_kind : (k : KindPart) (d : Draft) (os : List Open) (ts : List TemplatePart) (ps : List PageRule) → Nests (put_kind k d os ts ps)
unfolding IsNest
nest_kind k d os (t ∷ ts) ps = nest_none
nest_kind k d os [] (p ∷ ps) = nest_none
nest_kind k d (o ∷ os) [] [] = nest_none
nest_kind k d [] [] [] = nest_some (record { kinds = d.kinds ++ k ∷ []; templates = d.templates; pages = d.pages; stack = [] }) tt

nest_page : (p : PageRule) (d : Draft) (os : List Open) → Nests (put_page p d os)
unfolding IsNest
nest_page p d (o ∷ os) = nest_none
nest_page p d [] = nest_some (record { kinds = d.kinds; templates = d.templates; pages = d.pages ++ p ∷ []; stack = [] }) tt

nest_template : (name : Word) (kind : Option Word) (d : Draft) (os : List Open) (ps : List PageRule) → Nests (open_template (head.Template name kind) d os ps)
unfolding IsNest is_template
nest_template name kind d os (p ∷ ps) = nest_none
nest_template name kind d (o ∷ os) [] = nest_none
nest_template name kind d [] [] = nest_some (opened d (record { head = head.Template name kind; done = [] } ∷ [])) (refl, tt)

nest_statement : (h : Head) (d : Draft) (os : List Open) → is_template h ≡ false → IsNest os → Nests (open_statement h d os)
unfolding IsNest
nest_statement h d [] isnt n = nest_none
nest_statement h d (o ∷ os) isnt n = nest_some (opened d (record { head = h; done = [] } ∷ (o ∷ os))) (isnt, n)

nest_step : (d : Draft) (l : SiteLine) → IsNest d.stack → Nests (step d l)
unfolding is_template
nest_step d line.Blank n = nest_some d n
nest_step d (line.Kind name fields) n = nest_kind (record { name = name; fields = fields }) d d.stack d.templates d.pages
nest_step d (line.Page rule) n = nest_page rule d d.stack
nest_step d (line.Open (head.Template name kind)) n = nest_template name kind d d.stack d.pages
nest_step d (line.Open (head.If f)) n = nest_statement (head.If f) d d.stack refl n
nest_step d (line.Open (head.Each of by order)) n = nest_statement (head.Each of by order) d d.stack refl n
nest_step d (line.Open (head.Link name via)) n = nest_statement (head.Link name via) d d.stack refl n
nest_step d (line.Say words) n = nest_put (statement.Say words) d d.stack n
nest_step d line.Nl n = nest_put statement.Nl d d.stack n
nest_step d (line.Field f) n = nest_put (statement.Field f) d d.stack n
nest_step d line.Key n = nest_put statement.Key d d.stack n
nest_step d (line.Embed name via) n = nest_put (statement.Embed name via) d d.stack n
nest_step d line.End n = nest_end d d.stack n

nest_at : (d : Draft) (l : Option SiteLine) → IsNest d.stack → Nests (step_at d l)
nest_at d None n = nest_none
nest_at d (Some l) n = nest_step d l n

-- so many lines `end`
abbrev ends : ℕ → List Word
ends zero = []
ends (suc k) = codes "end" ∷ ends k

abbrev Closes : ℕ → Draft → ℕ → Type 0
Closes n d k = (parts : Parts) × (said_from n d (map line_of (ends k)) ≡ Ok parts)

-- what is open is closed by as many
closes : (k n : ℕ) (d : Draft) (os : List Open) → d.stack ≡ os → length os ≡ k → IsNest os → Closes n d k
unfolding IsNest is_template
closes zero n d [] is long nest = (parts_of d, ap (finished n d) is)
closes zero n d (o ∷ outer) is long nest = absurd (omega (arith, long))
closes (suc k) n d [] is long nest = absurd (omega (arith, long))
closes (suc k) n d (o ∷ outer) is long nest =
    by_outer o.head outer (λ e os. closes k (n + 1) e os) refl nest.0 nest.1 (let less : length outer ≡ k = omega (arith, long) in less)
  where
    onward_closes : (e : Draft) → step d line.End ≡ Some e → Closes (n + 1) e k → Closes n d (suc k)
    onward_closes e goes rest = (rest.0, ap (λ (x : Option Draft). onward n x (λ y. said_from (n + 1) y (map line_of (ends k)))) (ap (step_at d) (line-law line.End refl) ∙ goes) ∙ rest.1)

    by_outer : (h : Head) (os : List Open) → ((e : Draft) (os : List Open) → e.stack ≡ os → length os ≡ k → IsNest os → Closes (n + 1) e k) →
        end d (o ∷ outer) ≡ close h o.done (opened d os) os → is_template h ≡ is_none os → IsNest os → length os ≡ k → Closes n d (suc k)
    by_outer (head.Template name kind) (p ∷ ps) on goes so rest long = absurd (true≢false so)
    by_outer (head.Template name kind) [] on goes so rest long =
        let e : Draft = record { kinds = d.kinds; templates = d.templates ++ (record { name = name; kind = kind; body = o.done }) ∷ []; pages = d.pages; stack = [] } in
        onward_closes e (ap (end d) is ∙ goes) (on e [] refl long rest)
    by_outer (head.If f) [] on goes so rest long = absurd (true≢false (sym so))
    by_outer (head.If f) (p ∷ ps) on goes so rest long =
        let e : Draft = opened d (record { head = p.head; done = p.done ++ statement.If f o.done ∷ [] } ∷ ps) in
        onward_closes e (ap (end d) is ∙ goes) (on e (record { head = p.head; done = p.done ++ statement.If f o.done ∷ [] } ∷ ps) refl long rest)
    by_outer (head.Each of by order) [] on goes so rest long = absurd (true≢false (sym so))
    by_outer (head.Each of by order) (p ∷ ps) on goes so rest long =
        let e : Draft = opened d (record { head = p.head; done = p.done ++ statement.Each of by order o.done ∷ [] } ∷ ps) in
        onward_closes e (ap (end d) is ∙ goes) (on e (record { head = p.head; done = p.done ++ statement.Each of by order o.done ∷ [] } ∷ ps) refl long rest)
    by_outer (head.Link name via) [] on goes so rest long = absurd (true≢false (sym so))
    by_outer (head.Link name via) (p ∷ ps) on goes so rest long =
        let e : Draft = opened d (record { head = p.head; done = p.done ++ statement.Link name via o.done ∷ [] } ∷ ps) in
        onward_closes e (ap (end d) is ∙ goes) (on e (record { head = p.head; done = p.done ++ statement.Link name via o.done ∷ [] } ∷ ps) refl long rest)

-- the draft that the first lines leave, before the first bad one
record Reached (ls : List Word) (n : ℕ) (d : Draft) (k : ℕ) : Type 0 where
  pub draft : Draft
  pub nest : IsNest draft.stack
  pub within : k ≤ length ls
  pub goes : (more : List Word) → said_from n d (map line_of (take k ls ++ more)) ≡ said_from (n + k) draft (map line_of more)

reach : (k : ℕ) (ls : List Word) (n m : ℕ) (d : Draft) → IsNest d.stack → said_from n d (map line_of ls) ≡ bad m → n + k ≤ m → Reached ls n d k
reach zero ls n m d nest e less = record {
  draft = d;
  nest = nest;
  within = omega arith;
  goes = λ more. ap (λ i. said_from i d (map line_of more)) (let same : n ≡ n + 0 = omega arith in same);
}
reach (suc k) [] n m d nest e less = absurd (let late : m ≤ n = ended d.stack e in omega (arith, late, less))
  where
    ended : (os : List Open) → finished n d os ≡ bad m → m ≤ n
    ended [] e = absurd (cc)
    ended (o ∷ outer) e = let same : n ≡ m = same_number n m e in omega (arith, same)
reach (suc k) (l ∷ ls) n m d nest e less = by_step (step_at d (line_of l)) refl (λ x. reach k ls (n + 1) m x) e
  where
    by_step : (o : Option Draft) → step_at d (line_of l) ≡ o → ((x : Draft) → IsNest x.stack → said_from (n + 1) x (map line_of ls) ≡ bad m → n + 1 + k ≤ m → Reached ls (n + 1) x k) →
        onward n o (λ x. said_from (n + 1) x (map line_of ls)) ≡ bad m → Reached (l ∷ ls) n d (suc k)
    by_step None goes onto e = absurd (let same : n ≡ m = same_number n m e in omega (arith, same, less))
    by_step (Some x) goes onto e =
        let r : Reached ls (n + 1) x k = onto x (nest_at d (line_of l) nest x goes) e (omega (arith, less)) in
        record {
          draft = r.draft;
          nest = r.nest;
          within = omega (arith, r.within);
          goes = λ more.
              ap (λ (o : Option Draft). onward n o (λ y. said_from (n + 1) y (map line_of (take k ls ++ more)))) goes
              ∙ r.goes more ∙ ap (λ i. said_from i r.draft (map line_of more)) (let same : n + 1 + k ≡ n + suc k = omega arith in same);
        }

-- lines of a text have no line feed, so they can be written again
abbrev pub AreFree : List Word → Type 0
AreFree ls = AllByRecursion (λ l. is_free l ≡ true) ls

free_onto : (b : ℕ) (ps : List Word) → is_feed b ≡ false → AreFree ps → AreFree (onto_first b ps)
free_onto b [] isnt h = (and_from (not (is_feed b)) true (ap not isnt) refl, tt)
free_onto b (p ∷ ps) isnt h = (and_from (not (is_feed b)) (is_free p) (ap not isnt) h.0, h.1)

free_parts : (text : Word) → AreFree (slice_split is_feed text)
free_parts [] = (refl, tt)
free_parts (b ∷ text) = by_feed (is_feed b) refl (free_parts text)
  where
    by_feed : (e : Bool) → is_feed b ≡ e → AreFree (slice_split is_feed text) → AreFree (if e then ([] ∷ slice_split is_feed text) else onto_first b (slice_split is_feed text))
    by_feed true is h = (refl, h)
    by_feed false isnt h = free_onto b (slice_split is_feed text) isnt h

free_without : (ps : List Word) → AreFree ps → AreFree (without_last ps)
free_without [] h = tt
free_without (p ∷ []) h = by_empty (is_empty p)
  where
    by_empty : (e : Bool) → AreFree (if e then [] else p ∷ [])
    by_empty true = tt
    by_empty false = (h.0, tt)
free_without (p ∷ q ∷ ps) h = (h.0, free_without (q ∷ ps) h.1)

free_take : (k : ℕ) (ls more : List Word) → AreFree ls → AreFree more → AreFree (take k ls ++ more)
free_take zero ls more h g = g
free_take (suc k) [] more h g = g
free_take (suc k) (l ∷ ls) more h g = (h.0, free_take k ls more h.1 g)

free_ends : (k : ℕ) → AreFree (ends k)
free_ends zero = tt
free_ends (suc k) = (refl, free_ends k)

abbrev text_of : List Word → Word
text_of ls = flat_map (λ l. l ++ 10 ∷ []) ls

pub lines_again : (ls : List Word) → AreFree ls → text_lines (text_of ls) ≡ ls
lines_again [] h = refl
lines_again (l ∷ ls) h =
    ap without_last (split-feed l (text_of ls) h.0) ∙ without-cons l (text_of ls) ∙ ap (λ (xs : List Word). l ∷ xs) (lines_again ls h.1)

take_front : (k : ℕ) (ls more : List Word) → k ≤ length ls → take k (take k ls ++ more) ≡ take k ls
take_front zero ls more less = refl
take_front (suc k) [] more less = absurd (omega (arith, less))
take_front (suc k) (l ∷ ls) more less = ap (λ (xs : List Word). l ∷ xs) (take_front k ls more (omega (arith, less)))

pub lines_go_on : LinesGoOn
unfolding IsNest
lines_go_on text n k says less =
    let r : Reached (text_lines text) 1 blank k = reach k (text_lines text) 1 n blank tt says (omega (arith, less)) in
    let closing : List Word = ends (length r.draft.stack) in
    let c : Closes (1 + k) r.draft (length r.draft.stack) = closes (length r.draft.stack) (1 + k) r.draft r.draft.stack refl refl r.nest in
    let again : text_lines (text_of (take k (text_lines text) ++ closing)) ≡ take k (text_lines text) ++ closing =
    lines_again (take k (text_lines text) ++ closing) (free_take k (text_lines text) closing (free_without (slice_split is_feed text) (free_parts text)) (free_ends (length r.draft.stack))) in (
      text_of (take k (text_lines text) ++ closing),
      (
        c.0,
        ap (take k) again ∙ take_front k (text_lines text) closing r.within,
        ap (λ (ls : List Word). said_from 1 blank (map line_of ls)) again ∙ r.goes closing ∙ c.1,
      ),
    )
