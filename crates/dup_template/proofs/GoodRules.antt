-- What the rules of a good site give to who walks its statements.
use Rattle.dup_names.specs.Words.{Word, place, same}
use Rattle.std.proofs.Common.{◌≡◌, ℕ, zero, suc, ◌+◌, ◌<◌, ◌≤◌, List, [], ◌∷◌, ◌++◌, length, take, refl, subst, arith, append-nil, append_assoc}
use Rattle.std.specs.Prelude.{Bool, true, false, ◌||◌, Option, Some, None, if◌then◌else◌}
use Rattle.std.specs.List.{slice_get}
use Rattle.std.specs.Option.{option_or}
use Rattle.dup_template.specs.declared.refusal.What.TheVariants.{Kinds, Fields, Statements, Nesting}
use Rattle.dup_template.specs.declared.refusal.SiteRefusal.TheVariants.{LaterTemplate}
use Rattle.dup_template.specs.Frame.{Frame, Head, head_of, heads_of, frame_of}
use Rattle.dup_template.specs.declared.site.Parts.{Parts}
use Rattle.dup_template.specs.declared.site.KindPart.{KindPart}
use Rattle.dup_template.specs.declared.site.TemplatePart.{TemplatePart}
use Rattle.dup_template.specs.declared.statement.Statement.{Statement}
use Rattle.dup_template.specs.declared.statement.Statement.TheVariants as s
use Rattle.dup_template.specs.declared.statement.Statement.TheVariants.{rolls-Field, rolls-If, rolls-Embed}
use Rattle.dup_template.specs.declared.statement.Statement.TheFolds.{fold-roll-Statement}
use Rattle.dup_template.specs.Good.{has, at_most, first_from, template_names, template_fault, body_fault, body_size, statement_fault, field_fault, embed_fault, to_fault, find_template, site_fault, kind_fault, fields_fault, new_name, kind_names}
use Rattle.dup_template.proofs.GoodParts.{or-none, unless-none, at_most-none, good-parts}

-- the rules hold of each template's body, with the templates before it
rules-from : (site : Frame) (ts earlier : List TemplatePart) → first_from (template_fault site) earlier ts ≡ None →
    (i : ℕ) (t : TemplatePart) → slice_get ts i ≡ Some t → body_fault site (heads_of (earlier ++ take i ts)) t.name t.body t.kind 1 ≡ None
rules-from site [] earlier none i t is = cc
rules-from site (x ∷ ts) earlier none zero t is =
    let here = (or-none (template_fault site earlier x) (first_from (template_fault site) (earlier ++ x ∷ []) ts) none).0 in
    let body = (or-none (at_most 4096 Statements (body_size x.body)) (body_fault site (heads_of earlier) x.name x.body x.kind 1) here).1 in
    let same_part : x ≡ t = cc in
    rw (append-nil earlier) (subst (λ (y : TemplatePart). body_fault site (heads_of earlier) y.name y.body y.kind 1 ≡ None) same_part body)
rules-from site (x ∷ ts) earlier none (suc i) t is =
    subst (λ (ys : List TemplatePart). body_fault site (heads_of ys) t.name t.body t.kind 1 ≡ None) (append_assoc earlier (x ∷ []) (take i ts))
    (rules-from site ts (earlier ++ x ∷ []) (or-none (template_fault site earlier x) (first_from (template_fault site) (earlier ++ x ∷ []) ts) none).1 i t is)

pub template_rules : (site : Parts) → site_fault site ≡ None → (i : ℕ) (t : TemplatePart) → slice_get site.templates i ≡ Some t →
    body_fault (frame_of site) (heads_of (take i site.templates)) t.name t.body t.kind 1 ≡ None
template_rules site good i t is = rules-from (frame_of site) site.templates [] (good-parts site good).bodies i t is

-- one statement after another
pub body_rules : (site : Frame) (earlier : List Head) (own : Word) (x : Statement) (body : List Statement) (kind : Option Word) (depth : ℕ) →
    body_fault site earlier own (x ∷ body) kind depth ≡ None → (statement_fault site earlier own x kind depth ≡ None) × (body_fault site earlier own body kind depth ≡ None)
body_rules site earlier own x body kind depth h = or-none (statement_fault site earlier own x kind depth) (body_fault site earlier own body kind depth) h

pub rule_If : (site : Frame) (earlier : List Head) (own f : Word) (body : List Statement) (kind : Option Word) (depth : ℕ) →
    statement_fault site earlier own (s.If f body) kind depth
    ≡ option_or (at_most 8 Nesting depth) (option_or (field_fault site own kind f) (body_fault site earlier own body kind (depth + 1)))
rule_If site earlier own f body kind depth = rw (← rolls-If f body, fold-roll-Statement) refl

pub rule_Embed : (site : Frame) (earlier : List Head) (own name : Word) (via kind : Option Word) (depth : ℕ) →
    statement_fault site earlier own (s.Embed name via) kind depth
    ≡ option_or (at_most 8 Nesting depth) (embed_fault site earlier own kind name via (find_template site.templates name))
rule_Embed site earlier own name via kind depth = rw (← rolls-Embed name via, fold-roll-Statement) refl

-- an embedded template is among the earlier ones
embedded-by : (site : Frame) (earlier : List Head) (own name : Word) (via kind : Option Word) (u : Option Head) →
    embed_fault site earlier own kind name via u ≡ None → has name (template_names earlier) ≡ true
embedded-by site earlier own name via kind None h = cc
embedded-by site earlier own name via kind (Some u) h =
    unless-none (has name (template_names earlier)) (LaterTemplate name) (or-none _ (to_fault site own kind name via u.kind) h).0

place-by : (w x : Word) (xs : List Word) (e : Bool) → (has w xs ≡ true → place w xs < length xs) → (e || has w xs) ≡ true →
    (if e then 0 else (1 + place w xs)) < suc (length xs)
place-by w x xs true more h = omega arith
place-by w x xs false more h = let rest = more h in omega (arith, rest)

-- a name that is there has a place
pub has_place : (w : Word) (ws : List Word) → has w ws ≡ true → place w ws < length ws
has_place w [] h = cc
has_place w (x ∷ xs) h = place-by w x xs (same x w) (has_place w xs) h

place-front-by : (w x : Word) (xs : List Word) (i : ℕ) (e : Bool) → (has w (take i xs) ≡ true → place w xs < i) → (e || has w (take i xs)) ≡ true →
    (if e then 0 else (1 + place w xs)) < suc i
place-front-by w x xs i true more h = omega arith
place-front-by w x xs i false more h = let rest = more h in omega (arith, rest)

-- a name among the first i has a place below i
pub place_front : (w : Word) (ws : List Word) (i : ℕ) → has w (take i ws) ≡ true → place w ws < i
place_front w [] zero h = cc
place_front w [] (suc i) h = cc
place_front w (x ∷ xs) zero h = cc
place_front w (x ∷ xs) (suc i) h = place-front-by w x xs i (same x w) (place_front w xs i) h

fields-from : (ks earlier : List KindPart) → first_from kind_fault earlier ks ≡ None → (i : ℕ) (k : KindPart) → slice_get ks i ≡ Some k → length k.fields ≤ 32
fields-from [] earlier none i k is = cc
fields-from (x ∷ ks) earlier none zero k is =
    let here = (or-none (kind_fault earlier x) (first_from kind_fault (earlier ++ x ∷ []) ks) none).0 in
    let fields = (or-none (new_name (kind_names earlier) x.name) (fields_fault x.fields) here).1 in
    let same_part : x ≡ k = cc in
    subst (λ (y : KindPart). length y.fields ≤ 32) same_part
    (at_most-none 32 Fields (length x.fields) (or-none (at_most 32 Fields (length x.fields)) (first_from new_name [] x.fields) fields).0)
fields-from (x ∷ ks) earlier none (suc i) k is =
    fields-from ks (earlier ++ x ∷ []) (or-none (kind_fault earlier x) (first_from kind_fault (earlier ++ x ∷ []) ks) none).1 i k is

pub fields_within : (site : Parts) → site_fault site ≡ None → (i : ℕ) (k : KindPart) → slice_get site.kinds i ≡ Some k → length k.fields ≤ 32
fields_within site good i k is =
    fields-from site.kinds [] (or-none (at_most 64 Kinds (length site.kinds)) (first_from kind_fault [] site.kinds) (good-parts site good).kinds).1 i k is
