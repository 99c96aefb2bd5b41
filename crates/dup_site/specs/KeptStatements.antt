-- What a reader keeps of a site text: of each template the first statements, one more than a good one has, up
-- to the first that is too deep.
use Rattle.std.specs.Prelude.{◌≡◌, ℕ, zero, suc, ◌+◌, ◌<◌, ◌⊎◌, Bool, true, false, not, ◌&&◌, ◌||◌, List, []}
use Rattle.std.specs.Prelude.{◌∷◌, length, nat_eq, nat_lt, if◌then◌else◌, Option, Some, None, option_map}
use Rattle.std.specs.Prelude.{Result, Ok, Err}
use Rattle.dup_names.specs.Words.{Word}
use Rattle.dup_names.specs.declared.limits.TheConstants.{MAX_STATEMENTS, MAX_NESTING}
use Rattle.dup_template.specs.Good.{body_size, body_fault}
use Rattle.dup_template.specs.declared.statement.Statement.{Statement}
use Rattle.dup_template.specs.declared.statement.Statement.TheVariants as statement
use Rattle.dup_template.specs.Frame.{Frame, Head as OwnHead}
use Rattle.dup_template.specs.declared.site.Parts.{Parts}
use Rattle.dup_template.specs.declared.site.TemplatePart.{TemplatePart}
use Rattle.dup_site.specs.declared.site_line.SiteLine.{SiteLine}
use Rattle.dup_site.specs.declared.site_line.SiteLine.TheVariants.{Blank, Kind, Page, Open as Opens, Say, Nl}
use Rattle.dup_site.specs.declared.site_line.SiteLine.TheVariants.{Field, Key, Embed, End}
use Rattle.dup_site.specs.declared.site_line.Head.{Head}
use Rattle.dup_site.specs.declared.site_line.Head.TheVariants.{Template, If, Each, Link}
use Rattle.dup_template.specs.declared.refusal.SiteTextRefusal.{SiteTextRefusal}
use Rattle.dup_template.specs.declared.refusal.SiteTextRefusal.TheVariants.{BadLine, Check, NoMemory}
use Rattle.dup_site.specs.Draft.{Draft, is_none, put, step}

-- both break the same rule first, at this depth
pub record BreakSame (depth : ℕ) (xs ys : List Statement) : Type 0 where
  pub same : (frame : Frame) (earlier : List OwnHead) (own : Word) (kind : Option Word)
      → body_fault frame earlier own xs kind depth ≡ body_fault frame earlier own ys kind depth
  pub broken : (frame : Frame) (earlier : List OwnHead) (own : Word) (kind : Option Word)
      → body_fault frame earlier own xs kind depth ≡ None → ⊥

-- the same template; or both have more statements than a good one may; or both have as many, and break the
-- same rule first
abbrev pub IsKeptOf : TemplatePart → TemplatePart → Type 0
IsKeptOf kept whole =
    (kept.name ≡ whole.name)
    × (kept.kind ≡ whole.kind)
    × ((kept.body ≡ whole.body)
    ⊎ (((MAX_STATEMENTS < body_size kept.body) × (MAX_STATEMENTS < body_size whole.body))
    ⊎ ((body_size kept.body ≡ body_size whole.body) × BreakSame 1 kept.body whole.body)))

abbrev pub AreKeptOf : List TemplatePart → List TemplatePart → Type 0
AreKeptOf [] [] = Unit {0}
AreKeptOf (t ∷ ts) (u ∷ us) = IsKeptOf t u × AreKeptOf ts us
AreKeptOf [] (u ∷ us) = ⊥
AreKeptOf (t ∷ ts) [] = ⊥

-- what is kept of parts
pub record IsKept (kept whole : Parts) : Type 0 where
  pub kinds : kept.kinds ≡ whole.kinds
  pub pages : kept.pages ≡ whole.pages
  pub templates : AreKeptOf kept.templates whole.templates

-- what is kept of the parts that the text says, or the number of its first bad line, unless memory runs out
abbrev pub Keeps : Result Parts SiteTextRefusal → Result Parts ℕ → Type 0
Keeps (Ok kept) said = (whole : Parts) × (said ≡ Ok whole) × IsKept kept whole
Keeps (Err (BadLine n)) said = said ≡ Err n
Keeps (Err (Check e)) said = ⊥
Keeps (Err NoMemory) said = Unit {0}

-- what was kept so far, the statements of the open template that were begun, those that are open and weren't
-- kept, and whether one was too deep
pub record Keeping : Type 0 where
  pub draft : Draft
  pub begun : ℕ
  pub passed : ℕ
  pub deep : Bool

-- a head of a statement is one
abbrev pub head_size : Head → ℕ
head_size (Template name kind) = 0
head_size (If f) = 1
head_size (Each kind by order) = 1
head_size (Link name via) = 1

-- the statements that a line begins
abbrev pub begins : SiteLine → ℕ
begins Blank = 0
begins (Kind name fields) = 0
begins (Page rule) = 0
begins (Opens head) = head_size head
begins (Say words) = 1
begins Nl = 1
begins (Field f) = 1
begins Key = 1
begins (Embed name via) = 1
begins End = 0

-- whether it opens a statement
abbrev pub opens : SiteLine → Bool
opens (Opens head) = nat_eq (head_size head) 1
opens _ = false

abbrev pub counted : ℕ → Bool → Draft → Keeping
counted n deep d = record {
  draft = d;
  begun = if is_none d.stack then 0 else n;
  passed = 0;
  deep = if is_none d.stack then false else deep;
}

abbrev pub within : Keeping → SiteLine → Option Keeping
within k line = option_map (counted (k.begun + begins line) false) (step k.draft line)

abbrev pub passing : Keeping → ℕ → Option Keeping
passing k n = Some (record { draft = k.draft; begun = k.begun; passed = n; deep = k.deep })

-- a statement that isn't kept: while there is room, `nl` stands for it
abbrev pub mark : Keeping → ℕ → Option Keeping
mark k n =
    if nat_lt k.begun (MAX_STATEMENTS + 1)
    then option_map (λ d. record { draft = d; begun = k.begun + 1; passed = n; deep = true })
    (put statement.Nl k.draft k.draft.stack)
    else passing k n

abbrev pub pass_head : Keeping → Head → Option Keeping
pass_head k (Template name kind) = None
pass_head k (If f) = mark k (k.passed + 1)
pass_head k (Each kind by order) = mark k (k.passed + 1)
pass_head k (Link name via) = mark k (k.passed + 1)

abbrev pub pass_end : Keeping → ℕ → Option Keeping
pass_end k zero = option_map (counted k.begun k.deep) (step k.draft End)
pass_end k (suc n) = passing k n

-- past the statements that are kept, or behind one that is too deep
abbrev pub beyond : Keeping → SiteLine → Option Keeping
beyond k Blank = Some k
beyond k (Kind name fields) = None
beyond k (Page rule) = None
beyond k (Opens head) = pass_head k head
beyond k (Say words) = mark k k.passed
beyond k Nl = mark k k.passed
beyond k (Field f) = mark k k.passed
beyond k Key = mark k k.passed
beyond k (Embed name via) = mark k k.passed
beyond k End = pass_end k k.passed

-- nothing more is kept of the open template
abbrev pub is_past : Keeping → Bool
is_past k = k.deep || not (nat_lt k.begun (MAX_STATEMENTS + 1))

-- what it opens would be too deep
abbrev pub is_too_deep : Keeping → SiteLine → Bool
is_too_deep k line = opens line && nat_lt MAX_NESTING (length k.draft.stack)

abbrev pub keep : Keeping → SiteLine → Option Keeping
keep k line = if is_past k then beyond k line else (if is_too_deep k line then mark k 1 else within k line)

abbrev pub keep_at : Keeping → Option SiteLine → Option Keeping
keep_at k None = None
keep_at k (Some line) = keep k line
