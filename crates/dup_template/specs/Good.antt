-- The first rule that parts break, in the order in which a check looks at them.
use Rattle.std.specs.Prelude.{◌≡◌, ℕ, ◌+◌, Bool, true, false, not, ◌&&◌, nat_eq, nat_lt, if◌then◌else◌}
use Rattle.std.specs.Prelude.{List, [], ◌∷◌, ◌++◌, map, length, take, drop}
use Rattle.std.specs.Prelude.{Option, Some, None, is_some, Result, Ok, Err}
use Rattle.std.specs.List.{list_any, find, slice_get, sum_by}
use Rattle.std.specs.Option.{option_or}
use Rattle.dup_names.specs.Words.{Word, same}
use Rattle.dup_names.specs.Grammar.{is_key}
use Rattle.dup_names.specs.declared.limits.TheConstants.{MAX_KINDS, MAX_FIELDS, MAX_TEMPLATES, MAX_PAGE_RULES}
use Rattle.dup_names.specs.declared.limits.TheConstants.{MAX_STATEMENTS, MAX_NESTING}
use Rattle.dup_template.specs.declared.refusal.What.{What}
use Rattle.dup_template.specs.declared.refusal.What.TheVariants.{Kinds, Fields, Templates, Pages}
use Rattle.dup_template.specs.declared.refusal.What.TheVariants.{Statements, Nesting}
use Rattle.dup_template.specs.declared.refusal.SiteRefusal.{SiteRefusal}
use Rattle.dup_template.specs.declared.refusal.SiteRefusal.TheVariants.{Twice, Unknown, LaterTemplate}
use Rattle.dup_template.specs.declared.refusal.SiteRefusal.TheVariants.{WrongKind}
use Rattle.dup_template.specs.declared.refusal.SiteRefusal.TheVariants.{NoPage, PathClash, TooMany, NoMemory}
use Rattle.dup_template.specs.Frame.{Frame, Head, frame_of, head_of, heads_of}
use Rattle.dup_template.specs.declared.site.Parts.{Parts}
use Rattle.dup_template.specs.declared.site.KindPart.{KindPart}
use Rattle.dup_template.specs.declared.site.TemplatePart.{TemplatePart}
use Rattle.dup_template.specs.declared.site.PageRule.{PageRule}
use Rattle.dup_template.specs.declared.site.PageRule.TheVariants.{Fixed, Family}
use Rattle.dup_template.specs.declared.statement.Statement.{Statement, fold-Statement}
use Rattle.dup_template.specs.declared.statement.Statement.TheOpen.{Statement-F}

-- the rule that is broken, if one is
abbrev pub Fault : Type 0
Fault = Option SiteRefusal

-- whether a name is among names
abbrev pub has : Word → List Word → Bool
has w ws = list_any (λ x. same x w) ws

-- the fault that a broken rule gives
abbrev pub unless : Bool → SiteRefusal → Fault
unless holds fault = if holds then None else Some fault

-- no more than the limit
abbrev pub at_most : ℕ → What → ℕ → Fault
at_most limit what n = unless (not (nat_lt limit n)) (TooMany what)

-- the first fault of a list, where each element is looked at beside those before it
abbrev pub first_from : {X : Type 0} → (List X → X → Fault) → List X → List X → Fault
first_from rule earlier [] = None
first_from rule earlier (x ∷ xs) = option_or (rule earlier x) (first_from rule (earlier ++ x ∷ []) xs)

-- no earlier one has the name
abbrev pub new_name : List Word → Word → Fault
new_name earlier name = unless (not (has name earlier)) (Twice name)

-- 1. Kinds
abbrev pub kind_names : List KindPart → List Word
kind_names ks = map (λ k. k.name) ks

abbrev pub fields_fault : List Word → Fault
fields_fault fs = option_or (at_most MAX_FIELDS Fields (length fs)) (first_from new_name [] fs)

abbrev pub kind_fault : List KindPart → KindPart → Fault
kind_fault earlier k = option_or (new_name (kind_names earlier) k.name) (fields_fault k.fields)

abbrev pub kinds_fault : List KindPart → Fault
kinds_fault ks = option_or (at_most MAX_KINDS Kinds (length ks)) (first_from kind_fault [] ks)

-- 2. Heads of templates
abbrev pub template_names : List Head → List Word
template_names ts = map (λ t. t.name) ts

-- there is a kind of this name, where one is named
abbrev pub kind_known : List KindPart → Option Word → Fault
kind_known kinds None = None
kind_known kinds (Some k) = unless (has k (kind_names kinds)) (Unknown k)

abbrev pub head_fault : List KindPart → List Head → Head → Fault
head_fault kinds earlier t = option_or (new_name (template_names earlier) t.name) (kind_known kinds t.kind)

abbrev pub heads_fault : List KindPart → List Head → Fault
heads_fault kinds ts =
    option_or (at_most MAX_TEMPLATES Templates (length ts)) (first_from (head_fault kinds) [] ts)

-- 3. Declarations of pages
abbrev pub shown_by : PageRule → Word
shown_by (Fixed path of) = of
shown_by (Family prefix of) = of

-- what a declaration is named by in a clash
abbrev pub place_of : PageRule → Word
place_of (Fixed path of) = path
place_of (Family prefix of) = prefix

-- what follows the prefix, where the path begins with it
abbrev pub behind : Word → Word → Option Word
behind prefix path =
    if same (take (length prefix) path) prefix then Some (drop (length prefix) path) else None

abbrev pub is_slash_key : Option Word → Bool
is_slash_key None = false
is_slash_key (Some []) = false
is_slash_key (Some (x ∷ xs)) = nat_eq x 47 && is_key xs

-- the path is the prefix, `/` and a key
abbrev pub is_in_family : Word → Word → Bool
is_in_family prefix path = is_slash_key (behind prefix path)

-- two declarations that may be of one path
abbrev pub meet : PageRule → PageRule → Bool
meet (Fixed p t) (Fixed q u) = same p q
meet (Fixed p t) (Family q u) = is_in_family q p
meet (Family p t) (Fixed q u) = is_in_family p q
meet (Family p t) (Family q u) = same p q

abbrev pub is_of_its_kind : PageRule → Option Word → Bool
is_of_its_kind (Fixed path of) kind = not (is_some kind)
is_of_its_kind (Family prefix of) kind = is_some kind

-- the template with this name
abbrev pub find_template : List Head → Word → Option Head
find_template ts name = find (λ t. same t.name name) ts

abbrev pub shows_fault : PageRule → Option Head → Fault
shows_fault rule None = Some (Unknown (shown_by rule))
shows_fault rule (Some t) = unless (is_of_its_kind rule t.kind) (WrongKind (shown_by rule))

-- whether a template has a page
abbrev pub declared : List PageRule → Word → Bool
declared rules name = list_any (λ r. same (shown_by r) name) rules

abbrev pub page_fault : List Head → List PageRule → PageRule → Fault
page_fault ts earlier rule =
    option_or (shows_fault rule (find_template ts (shown_by rule)))
    (option_or (unless (not (declared earlier (shown_by rule))) (Twice (shown_by rule)))
    (unless (not (list_any (λ r. meet r rule) earlier)) (PathClash (place_of rule))))

abbrev pub pages_fault : List Head → List PageRule → Fault
pages_fault ts rules =
    option_or (at_most MAX_PAGE_RULES Pages (length rules)) (first_from (page_fault ts) [] rules)

-- 4. Bodies
abbrev pub find_kind : List KindPart → Word → Option KindPart
find_kind ks name = find (λ k. same k.name name) ks

-- the fields of a kind, none where it isn't there
abbrev pub fields_of : Option KindPart → List Word
fields_of None = []
fields_of (Some k) = k.fields

abbrev pub field_known : Frame → Word → Word → Fault
field_known frame kind f = unless (has f (fields_of (find_kind frame.kinds kind))) (Unknown f)

-- the rule of `field F`, `if F` and `via F` in a template, at a current kind
abbrev pub field_fault : Frame → Word → Option Word → Word → Fault
field_fault frame own None f = Some (WrongKind own)
field_fault frame own (Some kind) f = field_known frame kind f

abbrev pub key_fault : Word → Option Word → Fault
key_fault own kind = unless (is_some kind) (WrongKind own)

abbrev pub by_fault : Frame → Word → Option Word → Word → Option Word → Fault
by_fault frame own kind of None = None
by_fault frame own kind of (Some f) = option_or (key_fault own kind) (field_known frame of f)

abbrev pub order_fault : Frame → Word → Option Word → Fault
order_fault frame of None = None
order_fault frame of (Some f) = field_known frame of f

abbrev pub each_fault : Frame → Word → Option Word → Word → Option Word → Option Word → Fault
each_fault frame own kind of by order =
    option_or (kind_known frame.kinds (Some of))
    (option_or (by_fault frame own kind of by) (order_fault frame of order))

-- no kind, or the current one
abbrev pub is_current : Option Word → Option Word → Bool
is_current current None = true
is_current None (Some k) = false
is_current (Some c) (Some k) = same c k

-- the rule on the kind of the embedded or linked template
abbrev pub to_fault : Frame → Word → Option Word → Word → Option Word → Option Word → Fault
to_fault frame own current name None kind = unless (is_current current kind) (WrongKind name)
to_fault frame own current name (Some via) kind =
    option_or (unless (is_some kind) (WrongKind name)) (field_fault frame own current via)

abbrev pub embed_fault :
    Frame → List Head → Word → Option Word → Word → Option Word → Option Head → Fault
embed_fault frame earlier own current name via None = Some (Unknown name)
embed_fault frame earlier own current name via (Some u) =
    option_or (unless (has name (template_names earlier)) (LaterTemplate name))
    (to_fault frame own current name via u.kind)

abbrev pub link_fault : Frame → Word → Option Word → Word → Option Word → Option Head → Fault
link_fault frame own current name via None = Some (Unknown name)
link_fault frame own current name via (Some u) =
    option_or (unless (declared frame.pages name) (NoPage name)) (to_fault frame own current name via u.kind)

-- a rule, at a current kind and a depth
abbrev pub Rule : Type 0
Rule = Option Word → ℕ → Fault

abbrev pub in_turn : List Rule → Rule
in_turn [] kind depth = None
in_turn (r ∷ rs) kind depth = option_or (r kind depth) (in_turn rs kind depth)

-- one statement of a template, with the rules of its body
abbrev pub own_rule : Frame → List Head → Word → Statement-F Rule → Rule
own_rule frame earlier own (Statement-F.Say words) kind depth = None
own_rule frame earlier own Statement-F.Nl kind depth = None
own_rule frame earlier own (Statement-F.Field f) kind depth = field_fault frame own kind f
own_rule frame earlier own Statement-F.Key kind depth = key_fault own kind
own_rule frame earlier own (Statement-F.If f body) kind depth =
    option_or (field_fault frame own kind f) (in_turn body kind (depth + 1))
own_rule frame earlier own (Statement-F.Each of by order body) kind depth =
    option_or (each_fault frame own kind of by order) (in_turn body (Some of) (depth + 1))
own_rule frame earlier own (Statement-F.Embed name via) kind depth =
    embed_fault frame earlier own kind name via (find_template frame.templates name)
own_rule frame earlier own (Statement-F.Link name via body) kind depth =
    option_or (link_fault frame own kind name via (find_template frame.templates name))
    (in_turn body kind (depth + 1))

-- its depth first
abbrev pub rule : Frame → List Head → Word → Statement-F Rule → Rule
rule frame earlier own s kind depth =
    option_or (at_most MAX_NESTING Nesting depth) (own_rule frame earlier own s kind depth)

-- the first rule that a statement breaks
abbrev pub statement_fault : Frame → List Head → Word → Statement → Rule
statement_fault frame earlier own = fold-Statement Rule (rule frame earlier own)

-- the first rule that the statements of a body break
abbrev pub body_fault : Frame → List Head → Word → List Statement → Rule
body_fault frame earlier own body = in_turn (map (statement_fault frame earlier own) body)

-- the statements of a statement, itself included
abbrev pub size_step : Statement-F ℕ → ℕ
size_step (Statement-F.Say words) = 1
size_step Statement-F.Nl = 1
size_step (Statement-F.Field f) = 1
size_step Statement-F.Key = 1
size_step (Statement-F.If f body) = 1 + sum_by (λ n. n) body
size_step (Statement-F.Each of by order body) = 1 + sum_by (λ n. n) body
size_step (Statement-F.Embed name via) = 1
size_step (Statement-F.Link name via body) = 1 + sum_by (λ n. n) body

-- how many statements a statement is
abbrev pub size : Statement → ℕ
size = fold-Statement ℕ size_step

-- the statements of a body
abbrev pub body_size : List Statement → ℕ
body_size body = sum_by (λ n. n) (map size body)

-- a number, or one more than the most statements where it is more than these
abbrev pub capped : ℕ → ℕ
capped n = if nat_lt MAX_STATEMENTS n then MAX_STATEMENTS + 1 else n

-- a template's statements, with the templates before it: how many they are, and then their rules
abbrev pub body_broken : Frame → List Head → Head → List Statement → Fault
body_broken frame earlier head body =
    option_or (at_most MAX_STATEMENTS Statements (body_size body))
    (body_fault frame earlier head.name body head.kind 1)

abbrev pub template_fault : Frame → List TemplatePart → TemplatePart → Fault
template_fault frame earlier t = body_broken frame (heads_of earlier) (head_of t) t.body

abbrev pub bodies_fault : Parts → Fault
bodies_fault site = first_from (template_fault (frame_of site)) [] site.templates

-- the rule that a body breaks as that of a frame's template, if it is there
abbrev pub broken_at : Frame → ℕ → List Statement → Option Head → Fault
broken_at frame template body None = None
broken_at frame template body (Some head) = body_broken frame (take template frame.templates) head body

abbrev pub new_body_fault : Frame → ℕ → List Statement → Fault
new_body_fault frame template body = broken_at frame template body (slice_get frame.templates template)

-- the rules in their order
abbrev pub site_fault : Parts → Fault
site_fault site =
    option_or (kinds_fault site.kinds)
    (option_or (heads_fault site.kinds (heads_of site.templates))
    (option_or (pages_fault (heads_of site.templates) site.pages) (bodies_fault site)))

-- parts that break no rule
abbrev pub IsGood : Parts → Type 0
IsGood site = site_fault site ≡ None

-- a refusal is this fault, and there is none without it, unless memory runs out
abbrev pub RefusedFor : Option SiteRefusal → Fault → Type 0
RefusedFor None fault = fault ≡ None
RefusedFor (Some NoMemory) fault = Unit {0}
RefusedFor (Some why) fault = fault ≡ Some why
