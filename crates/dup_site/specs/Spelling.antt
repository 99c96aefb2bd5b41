-- What one line says, and how it is written.
use Rattle.dup_names.specs.Words.{Word, same}
use Rattle.std.specs.Prelude.{◌≡◌, ℕ, Bool, true, ◌&&◌, List, [], ◌∷◌, ◌++◌, map, nat_eq, if◌then◌else◌}
use Rattle.std.specs.Prelude.{Option, Some, None, codes, Result}
use Rattle.std.specs.List.{list_all, flat_map}
use Rattle.std.specs.Str.{is_utf8}
use Rattle.dup_names.specs.Grammar.{is_name, is_path}
use Rattle.dup_template.specs.BodyLines.{each_text, embed_text, field_text, if_text, link_text, say_text, with_word}
use Rattle.dup_template.specs.Texts.{is_plain, is_prefix}
use Rattle.dup_template.specs.declared.site.Parts.{Parts}
use Rattle.dup_template.specs.declared.site.PageRule.{PageRule}
use Rattle.dup_template.specs.declared.site.PageRule.TheVariants.{Fixed, Family}
use Rattle.dup_site.specs.declared.site_line.SiteLine.{SiteLine}
use Rattle.dup_site.specs.declared.site_line.SiteLine.TheVariants.{Blank, Kind, Page, Open, Say, Nl, Field}
use Rattle.dup_site.specs.declared.site_line.SiteLine.TheVariants.{Key, Embed, End}
use Rattle.dup_site.specs.declared.site_line.Head.{Head}
use Rattle.dup_site.specs.declared.site_line.Head.TheVariants.{Template, If, Each, Link}
use Rattle.dup_names.specs.LineWords.{line_words, trimmed, spaced}
use Rattle.dup_names.specs.Lines.{text_lines}
use Rattle.dup_site.specs.Draft.{said}
use Rattle.dup_site.specs.Canonical.{site_lines}

abbrev pub where_so : Bool → SiteLine → Option SiteLine
where_so b line = if b then Some line else None

abbrev pub kind_line : List Word → Option SiteLine
kind_line [] = None
kind_line (name ∷ fields) = where_so (is_name name && list_all is_name fields) (Kind name fields)

abbrev pub Rest : Type 0 → Type 0
Rest X = Option (X × List Word)

abbrev pub with_read : {X Y : Type 0} → Option X → (X → Option Y) → Option Y
with_read None f = None
with_read (Some x) f = f x

-- a name, and the words behind it
abbrev pub name_first : List Word → Rest Word
name_first [] = None
name_first (w ∷ ws) = if is_name w then Some (w, ws) else None

-- where this word stands there: a name behind it
abbrev pub marked : Word → List Word → Rest (Option Word)
marked word [] = Some (None, [])
marked word (w ∷ ws) =
    if same w word then with_read (name_first ws) (λ n. Some (Some n.0, n.1)) else Some (None, w ∷ ws)

-- nothing more
abbrev pub at_end : List Word → SiteLine → Option SiteLine
at_end [] line = Some line
at_end (w ∷ ws) line = None

abbrev pub one_name : (Word → SiteLine) → List Word → Option SiteLine
one_name f ws = with_read (name_first ws) (λ n. at_end n.1 (f n.0))

-- a name, and perhaps a mark and a name
abbrev pub marked_line : Word → (Word → Option Word → SiteLine) → List Word → Option SiteLine
marked_line word f ws =
    with_read (name_first ws) (λ n. with_read (marked word n.1) (λ m. at_end m.1 (f n.0 m.0)))

abbrev pub template_head : Word → Option Word → SiteLine
template_head name kind = Open (Template name kind)

abbrev pub link_head : Word → Option Word → SiteLine
link_head name via = Open (Link name via)

abbrev pub if_head : Word → SiteLine
if_head f = Open (If f)

abbrev pub each_line : List Word → Option SiteLine
each_line ws =
    with_read (name_first ws)
    (λ n. with_read (marked (codes "by") n.1)
    (λ by. with_read (marked (codes "order") by.1) (λ last. at_end last.1 (Open (Each n.0 by.0 last.0)))))

abbrev pub path_first : (Word → Bool) → List Word → Rest Word
path_first is [] = None
path_first is (w ∷ ws) = if is w then Some (w, ws) else None

abbrev pub page_line : List Word → Option SiteLine
page_line ws =
    with_read (path_first is_path ws)
    (λ p. with_read (name_first p.1) (λ n. at_end n.1 (Page (Fixed p.0 n.0))))

abbrev pub family_line : List Word → Option SiteLine
family_line ws =
    with_read (path_first is_prefix ws)
    (λ p. with_read (name_first p.1) (λ n. at_end n.1 (Page (Family p.0 n.0))))

abbrev pub by_word : Word → List Word → Option SiteLine
by_word w ws =
    if same w (codes "kind") then kind_line ws else
    (if same w (codes "template") then marked_line (codes "of") template_head ws else
    (if same w (codes "page") then page_line ws else
    (if same w (codes "family") then family_line ws else
    (if same w (codes "nl") then at_end ws Nl else
    (if same w (codes "field") then one_name Field ws else
    (if same w (codes "key") then at_end ws Key else
    (if same w (codes "if") then one_name if_head ws else
    (if same w (codes "each") then each_line ws else
    (if same w (codes "embed") then marked_line (codes "via") Embed ws else
    (if same w (codes "link") then marked_line (codes "via") link_head ws else
    (if same w (codes "end") then at_end ws End else None)))))))))))

abbrev pub by_words : List Word → Option SiteLine
by_words [] = Some Blank
by_words (w ∷ ws) = by_word w ws

-- behind `=`
abbrev pub say_line : List ℕ → Option SiteLine
say_line [] = None
say_line (b ∷ text) = where_so (nat_eq b 32 && is_plain text) (Say text)

-- `#` is 35, and `=` is 61
abbrev pub by_start : List ℕ → Option SiteLine
by_start [] = Some Blank
by_start (b ∷ rest) =
    if nat_eq b 35 then Some Blank else
    (if nat_eq b 61 then say_line rest else by_words (line_words (b ∷ rest)))

-- what the bytes of a line say, None where they have no form
abbrev pub line_of : List ℕ → Option SiteLine
line_of bytes = if is_utf8 bytes then by_start (trimmed bytes) else None

-- what a text says
abbrev pub text_says : List ℕ → Result Parts ℕ
text_says text = said (map line_of (text_lines text))

abbrev pub head_text : Head → Word
head_text (Template name kind) = spaced (codes "template" ∷ name ∷ with_word (codes "of") kind)
head_text (If f) = if_text f
head_text (Each kind by order) = each_text kind by order
head_text (Link name via) = link_text name via

abbrev pub page_words : PageRule → List Word
page_words (Fixed path name) = codes "page" ∷ path ∷ name ∷ []
page_words (Family prefix name) = codes "family" ∷ prefix ∷ name ∷ []

-- how a line is written
abbrev pub line_text : SiteLine → List ℕ
line_text Blank = []
line_text (Kind name fields) = spaced (codes "kind" ∷ name ∷ fields)
line_text (Page rule) = spaced (page_words rule)
line_text (Open head) = head_text head
line_text (Say words) = say_text words
line_text Nl = codes "nl"
line_text (Field f) = field_text f
line_text Key = codes "key"
line_text (Embed name via) = embed_text name via
line_text End = codes "end"

-- with a line feed after each line
abbrev pub texts : List SiteLine → List ℕ
texts ls = flat_map (λ l. line_text l ++ 10 ∷ []) ls

-- the canonical text
abbrev pub written : Parts → List ℕ
written site = texts (site_lines site)

-- what the types of the parts keep of them
abbrev pub is_named : Option Word → Bool
is_named None = true
is_named (Some name) = is_name name

abbrev pub is_spelled_head : Head → Bool
is_spelled_head (Template name kind) = is_name name && is_named kind
is_spelled_head (If f) = is_name f
is_spelled_head (Each kind by order) = is_name kind && is_named by && is_named order
is_spelled_head (Link name via) = is_name name && is_named via

abbrev pub is_spelled_page : PageRule → Bool
is_spelled_page (Fixed path name) = is_path path && is_name name
is_spelled_page (Family prefix name) = is_prefix prefix && is_name name

abbrev pub is_spelled : SiteLine → Bool
is_spelled Blank = true
is_spelled (Kind name fields) = is_name name && list_all is_name fields
is_spelled (Page rule) = is_spelled_page rule
is_spelled (Open head) = is_spelled_head head
is_spelled (Say words) = is_plain words && is_utf8 words
is_spelled Nl = true
is_spelled (Field f) = is_name f
is_spelled Key = true
is_spelled (Embed name via) = is_name name && is_named via
is_spelled End = true

abbrev pub are_spelled : List SiteLine → Type 0
are_spelled ls = list_all is_spelled ls ≡ true
