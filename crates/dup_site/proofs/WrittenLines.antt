-- A line that was written is read as the same line.
use Rattle.dup_names.specs.Words.{Word}
use Rattle.std.proofs.Common.{◌≡◌, ℕ, zero, suc, ◌<◌, List, [], ◌∷◌, ◌++◌, map, length, refl, ap, ap₂, subst, ◌∙◌, arith}
use Rattle.std.specs.Prelude.{Bool, true, false, not, ◌&&◌, Option, Some, None, Ok, codes, nat_eq, nat_le, if◌then◌else◌}
use Rattle.std.specs.List.{flat_map, list_all, slice_split, onto_first}
use Rattle.std.specs.Str.{is_utf8, IsUtf8, IsAscii}
use Rattle.std.proofs.lemmas.Bool.{and_parts, and_from, or_cases, cond-false, not-true, leb-true, eqb-true, false_from_ne_true, false≢true}
use Rattle.std.proofs.lemmas.Str.{IsUtf8-append, IsUtf8-from_is_utf8, is_utf8-from_IsUtf8, IsUtf8-from_ascii, IsUtf8-nil}
use Rattle.dup_names.specs.Grammar.{is_name, is_path}
use Rattle.dup_template.specs.Texts.{is_plain, is_prefix, is_line_byte}
use Rattle.dup_names.proofs.LineWords.{is_word_byte, is_word, space-no, bytes-of, words-law, name-word, path-word}
use Rattle.dup_names.specs.LineWords.{line_words, trimmed, spaced, is_space}
use Rattle.dup_names.specs.Lines.{text_lines, without_last, is_feed}
use Rattle.dup_template.specs.BodyLines.{with_word}
use Rattle.dup_site.specs.Spelling.{line_of, by_start, say_line, by_words, line_text, is_spelled, is_spelled_head, is_spelled_page, is_named, head_text, page_words, text_says, written}
use Rattle.dup_template.specs.declared.site.Parts.{Parts}
use Rattle.dup_site.specs.Draft.{said}
use Rattle.dup_site.specs.Canonical.{site_lines}
use Rattle.dup_site.proofs.LinesSayParts.{site_lines-said}
use Rattle.dup_template.specs.declared.site.PageRule.{PageRule}
use Rattle.dup_template.specs.declared.site.PageRule.TheVariants.{Fixed, Family}
use Rattle.dup_site.specs.declared.site_line.SiteLine.{SiteLine}
use Rattle.dup_site.specs.declared.site_line.SiteLine.TheVariants as line
use Rattle.dup_site.specs.declared.site_line.Head.{Head}
use Rattle.dup_site.specs.declared.site_line.Head.TheVariants.{Template, If, Each, Link}

feed-no : (b : ℕ) → is_word_byte b ≡ true → is_feed b ≡ false
feed-no b h = false_from_ne_true (is_feed b) (λ e. false≢true (subst (λ (x : ℕ). is_word_byte x ≡ true) (eqb-true b 10 e) h))

-- words are ASCII
ascii-byte : (b : ℕ) → is_word_byte b ≡ true → b < 128
ascii-byte b h = grind (arith, or_cases, leb-true, eqb-true, and_parts)

ascii : (w : Word) → list_all is_word_byte w ≡ true → IsAscii w
ascii [] h i = omega arith
ascii (b ∷ w) h zero = ascii-byte b (and_parts (is_word_byte b) (list_all is_word_byte w) h).0
ascii (b ∷ w) h (suc i) = ascii w (and_parts (is_word_byte b) (list_all is_word_byte w) h).1 i

utf8-word : (w : Word) → list_all is_word_byte w ≡ true → IsUtf8 w
utf8-word w h = IsUtf8-from_ascii w (ascii w h)

space-ascii : IsAscii (32 ∷ [])
space-ascii zero = omega arith
space-ascii (suc i) = omega arith

utf8-space : IsUtf8 (32 ∷ [])
utf8-space = IsUtf8-from_ascii (32 ∷ []) space-ascii

utf8-spaced : (ws : List Word) → list_all is_word ws ≡ true → IsUtf8 (spaced ws)
utf8-spaced [] h = IsUtf8-nil
utf8-spaced (w ∷ []) h = utf8-word w (bytes-of w (and_parts (is_word w) true h).0)
utf8-spaced (w ∷ v ∷ ws) h =
    let both = and_parts (is_word w) (list_all is_word (v ∷ ws)) h in
    IsUtf8-append w (32 ∷ spaced (v ∷ ws)) (utf8-word w (bytes-of w both.0))
    (IsUtf8-append (32 ∷ []) (spaced (v ∷ ws)) utf8-space (utf8-spaced (v ∷ ws) both.1))

names-words : (ws : List Word) → list_all is_name ws ≡ true → list_all is_word ws ≡ true
names-words [] h = refl
names-words (w ∷ ws) h =
    let both = and_parts (is_name w) (list_all is_name ws) h in
    and_from (is_word w) (list_all is_word ws) (name-word w both.0) (names-words ws both.1)

hash-no : (b : ℕ) → is_word_byte b ≡ true → nat_eq b 35 ≡ false
hash-no b h = false_from_ne_true (nat_eq b 35) (λ e. false≢true (subst (λ (x : ℕ). is_word_byte x ≡ true) (eqb-true b 35 e) h))

equals-no : (b : ℕ) → is_word_byte b ≡ true → nat_eq b 61 ≡ false
equals-no b h = false_from_ne_true (nat_eq b 61) (λ e. false≢true (subst (λ (x : ℕ). is_word_byte x ≡ true) (eqb-true b 61 e) h))

start-words : (b : ℕ) (rest : List ℕ) → is_word_byte b ≡ true → by_start (trimmed (b ∷ rest)) ≡ by_words (line_words (b ∷ rest))
start-words b rest h =
    ap by_start (cond-false (is_space b) (trimmed rest) (b ∷ rest) (space-no b h))
    ∙ cond-false (nat_eq b 35) (Some line.Blank) _ (hash-no b h)
    ∙ cond-false (nat_eq b 61) (say_line rest) _ (equals-no b h)

valid : (bytes : List ℕ) → IsUtf8 bytes → line_of bytes ≡ by_start (trimmed bytes)
valid bytes u = rw (is_utf8-from_IsUtf8 bytes u) refl

first-byte : (b : ℕ) (w : Word) → is_word (b ∷ w) ≡ true → is_word_byte b ≡ true
first-byte b w h = (and_parts (is_word_byte b) (list_all is_word_byte w) h).0

spaced-start : (ws : List Word) → list_all is_word ws ≡ true → by_start (trimmed (spaced ws)) ≡ by_words (line_words (spaced ws))
spaced-start [] h = refl
spaced-start ([] ∷ ws) h = cc
spaced-start ((b ∷ w) ∷ []) h = start-words b w (first-byte b w (and_parts (is_word (b ∷ w)) true h).0)
spaced-start ((b ∷ w) ∷ v ∷ ws) h =
    start-words b (w ++ 32 ∷ spaced (v ∷ ws)) (first-byte b w (and_parts (is_word (b ∷ w)) (list_all is_word (v ∷ ws)) h).0)

line-words : (ws : List Word) → list_all is_word ws ≡ true → line_of (spaced ws) ≡ by_words ws
line-words ws h = valid (spaced ws) (utf8-spaced ws h) ∙ spaced-start ws h ∙ ap by_words (words-law ws h)

two : (v w : Word) → is_word v ≡ true → is_word w ≡ true → list_all is_word (v ∷ w ∷ []) ≡ true
two v w p q = and_from (is_word v) (is_word w && true) p (and_from (is_word w) true q refl)

one : (w : Word) → is_word w ≡ true → list_all is_word (w ∷ []) ≡ true
one w p = and_from (is_word w) true p refl

prefix-word : (w : Word) → is_prefix w ≡ true → is_word w ≡ true
prefix-word w h =
    path-word w (and_parts (is_path w) (nat_le 2 (length w)) (and_parts (is_path w && nat_le 2 (length w)) (nat_le (length w) 120) h).0).0

named : (kw : Word) (name : Word) → is_word kw ≡ true → is_name name ≡ true → line_of (spaced (kw ∷ name ∷ [])) ≡ by_words (kw ∷ name ∷ [])
named kw name p q = line-words (kw ∷ name ∷ []) (two kw name p (name-word name q))

via-law : (kw : Word) (name via by : Word) → is_word kw ≡ true → is_word by ≡ true → is_name name ≡ true → is_name via ≡ true →
    line_of (spaced (kw ∷ name ∷ by ∷ via ∷ [])) ≡ by_words (kw ∷ name ∷ by ∷ via ∷ [])
via-law kw name via by p q r s =
    line-words (kw ∷ name ∷ by ∷ via ∷ [])
    (and_from (is_word kw) (list_all is_word (name ∷ by ∷ via ∷ [])) p
    (and_from (is_word name) (list_all is_word (by ∷ via ∷ [])) (name-word name r) (two by via q (name-word via s))))

page-law : (rule : PageRule) → is_spelled_page rule ≡ true → line_of (line_text (line.Page rule)) ≡ Some (line.Page rule)
page-law (Fixed path name) h =
    let both = and_parts (is_path path) (is_name name) h in
    line-words (codes "page" ∷ path ∷ name ∷ []) (two path name (path-word path both.0) (name-word name both.1)) ∙ rw (both.0, both.1) refl
page-law (Family prefix name) h =
    let both = and_parts (is_prefix prefix) (is_name name) h in
    line-words (codes "family" ∷ prefix ∷ name ∷ []) (two prefix name (prefix-word prefix both.0) (name-word name both.1)) ∙ rw (both.0, both.1) refl

head-law : (h : Head) → is_spelled_head h ≡ true → line_of (line_text (line.Open h)) ≡ Some (line.Open h)
head-law (Template name None) h =
    let both = and_parts (is_name name) true h in
    named (codes "template") name refl both.0 ∙ rw both.0 refl
head-law (Template name (Some kind)) h =
    let both = and_parts (is_name name) (is_name kind) h in
    via-law (codes "template") name kind (codes "of") refl refl both.0 both.1 ∙ rw (both.0, both.1) refl
head-law (If f) h = named (codes "if") f refl h ∙ rw h refl
head-law (Each kind None None) h =
    let k = (and_parts (is_name kind) true (and_parts (is_name kind && true) true h).0).0 in
    named (codes "each") kind refl k ∙ rw k refl
head-law (Each kind None (Some last)) h =
    let both = and_parts (is_name kind && true) (is_name last) h in
    let k = (and_parts (is_name kind) true both.0).0 in
    via-law (codes "each") kind last (codes "order") refl refl k both.1 ∙ rw (k, both.1) refl
head-law (Each kind (Some f) None) h =
    let both = and_parts (is_name kind) (is_name f) (and_parts (is_name kind && is_name f) true h).0 in
    via-law (codes "each") kind f (codes "by") refl refl both.0 both.1 ∙ rw (both.0, both.1) refl
head-law (Each kind (Some f) (Some last)) h =
    let three = and_parts (is_name kind && is_name f) (is_name last) h in
    let both = and_parts (is_name kind) (is_name f) three.0 in
    line-words (codes "each" ∷ kind ∷ codes "by" ∷ f ∷ codes "order" ∷ last ∷ [])
    (and_from (is_word kind) (list_all is_word (codes "by" ∷ f ∷ codes "order" ∷ last ∷ [])) (name-word kind both.0)
    (and_from (is_word f) (list_all is_word (codes "order" ∷ last ∷ [])) (name-word f both.1) (one last (name-word last three.1))))
    ∙ rw (both.0, both.1, three.1) refl
head-law (Link name None) h =
    let both = and_parts (is_name name) true h in
    named (codes "link") name refl both.0 ∙ rw both.0 refl
head-law (Link name (Some via)) h =
    let both = and_parts (is_name name) (is_name via) h in
    via-law (codes "link") name via (codes "via") refl refl both.0 both.1 ∙ rw (both.0, both.1) refl

equals-ascii : IsAscii (61 ∷ 32 ∷ [])
equals-ascii zero = omega arith
equals-ascii (suc zero) = omega arith
equals-ascii (suc (suc i)) = omega arith

utf8-equals : IsUtf8 (61 ∷ 32 ∷ [])
utf8-equals = IsUtf8-from_ascii (61 ∷ 32 ∷ []) equals-ascii

pub line-law : (l : SiteLine) → is_spelled l ≡ true → line_of (line_text l) ≡ Some l
line-law line.Blank h = rw (is_utf8-from_IsUtf8 [] IsUtf8-nil) refl
line-law (line.Kind name fields) h =
    let both = and_parts (is_name name) (list_all is_name fields) h in
    line-words (codes "kind" ∷ name ∷ fields) (and_from (is_word name) (list_all is_word fields) (name-word name both.0) (names-words fields both.1)) ∙ rw h refl
line-law (line.Page rule) h = page-law rule h
line-law (line.Open hd) h = head-law hd h
line-law (line.Say words) h =
    let both = and_parts (is_plain words) (is_utf8 words) h in
    valid (codes "= " ++ words) (IsUtf8-append (codes "= ") words (utf8-equals) (IsUtf8-from_is_utf8 words both.1)) ∙ rw both.0 refl
line-law line.Nl h = line-words (codes "nl" ∷ []) refl
line-law (line.Field f) h = named (codes "field") f refl h ∙ rw h refl
line-law line.Key h = line-words (codes "key" ∷ []) refl
line-law (line.Embed name None) h =
    let both = and_parts (is_name name) true h in
    named (codes "embed") name refl both.0 ∙ rw both.0 refl
line-law (line.Embed name (Some via)) h =
    let both = and_parts (is_name name) (is_name via) h in
    via-law (codes "embed") name via (codes "via") refl refl both.0 both.1 ∙ rw (both.0, both.1) refl
line-law line.End h = line-words (codes "end" ∷ []) refl

-- no line feed in a line
abbrev pub is_free : List ℕ → Bool
is_free bytes = list_all (λ b. not (is_feed b)) bytes

free-word : (w : Word) → list_all is_word_byte w ≡ true → is_free w ≡ true
free-word [] h = refl
free-word (b ∷ w) h =
    let both = and_parts (is_word_byte b) (list_all is_word_byte w) h in
    rw (feed-no b both.0) (free-word w both.1)

free-append : (xs ys : List ℕ) → is_free xs ≡ true → is_free ys ≡ true → is_free (xs ++ ys) ≡ true
free-append [] ys p q = q
free-append (x ∷ xs) ys p q =
    let both = and_parts (not (is_feed x)) (is_free xs) p in
    and_from (not (is_feed x)) (is_free (xs ++ ys)) both.0 (free-append xs ys both.1 q)

free-spaced : (ws : List Word) → list_all is_word ws ≡ true → is_free (spaced ws) ≡ true
free-spaced [] h = refl
free-spaced (w ∷ []) h = free-word w (bytes-of w (and_parts (is_word w) true h).0)
free-spaced (w ∷ v ∷ ws) h =
    let both = and_parts (is_word w) (list_all is_word (v ∷ ws)) h in
    free-append w (32 ∷ spaced (v ∷ ws)) (free-word w (bytes-of w both.0)) (free-spaced (v ∷ ws) both.1)

with-words : (by : Word) (name : Option Word) → is_word by ≡ true → is_named name ≡ true → list_all is_word (with_word by name) ≡ true
with-words by None p h = refl
with-words by (Some name) p h = two by name p (name-word name h)

all-append : (xs ys : List Word) → list_all is_word xs ≡ true → list_all is_word ys ≡ true → list_all is_word (xs ++ ys) ≡ true
all-append [] ys p q = q
all-append (x ∷ xs) ys p q =
    let both = and_parts (is_word x) (list_all is_word xs) p in
    and_from (is_word x) (list_all is_word (xs ++ ys)) both.0 (all-append xs ys both.1 q)

name-and : (name : Word) (ws : List Word) → is_name name ≡ true → list_all is_word ws ≡ true → list_all is_word (name ∷ ws) ≡ true
name-and name ws p q = and_from (is_word name) (list_all is_word ws) (name-word name p) q

free-head : (hd : Head) → is_spelled_head hd ≡ true → is_free (head_text hd) ≡ true
free-head (Template name kind) h =
    let both = and_parts (is_name name) (is_named kind) h in
    free-spaced (codes "template" ∷ name ∷ with_word (codes "of") kind) (name-and name (with_word (codes "of") kind) both.0 (with-words (codes "of") kind refl both.1))
free-head (If f) h = free-spaced (codes "if" ∷ f ∷ []) (name-and f [] h refl)
free-head (Each kind by last) h =
    let three = and_parts (is_name kind && is_named by) (is_named last) h in
    let both = and_parts (is_name kind) (is_named by) three.0 in
    free-spaced (codes "each" ∷ kind ∷ (with_word (codes "by") by ++ with_word (codes "order") last))
    (name-and kind (with_word (codes "by") by ++ with_word (codes "order") last) both.0
    (all-append (with_word (codes "by") by) (with_word (codes "order") last) (with-words (codes "by") by refl both.1) (with-words (codes "order") last refl three.1)))
free-head (Link name via) h =
    let both = and_parts (is_name name) (is_named via) h in
    free-spaced (codes "link" ∷ name ∷ with_word (codes "via") via) (name-and name (with_word (codes "via") via) both.0 (with-words (codes "via") via refl both.1))

free-page : (rule : PageRule) → is_spelled_page rule ≡ true → is_free (spaced (page_words rule)) ≡ true
free-page (Fixed path name) h =
    let both = and_parts (is_path path) (is_name name) h in
    free-spaced (codes "page" ∷ path ∷ name ∷ []) (two path name (path-word path both.0) (name-word name both.1))
free-page (Family prefix name) h =
    let both = and_parts (is_prefix prefix) (is_name name) h in
    free-spaced (codes "family" ∷ prefix ∷ name ∷ []) (two prefix name (prefix-word prefix both.0) (name-word name both.1))

free-text : (text : List ℕ) → list_all is_line_byte text ≡ true → is_free text ≡ true
free-text [] h = refl
free-text (b ∷ bs) h =
    let both = and_parts (is_line_byte b) (list_all is_line_byte bs) h in
    and_from (not (is_feed b)) (is_free bs) (and_parts (not (nat_eq b 10)) (not (nat_eq b 13)) both.0).0 (free-text bs both.1)

pub free-line : (l : SiteLine) → is_spelled l ≡ true → is_free (line_text l) ≡ true
free-line line.Blank h = refl
free-line (line.Kind name fields) h =
    let both = and_parts (is_name name) (list_all is_name fields) h in
    free-spaced (codes "kind" ∷ name ∷ fields) (name-and name fields both.0 (names-words fields both.1))
free-line (line.Page rule) h = free-page rule h
free-line (line.Open hd) h = free-head hd h
free-line (line.Say words) h =
    let plain = (and_parts (is_plain words) (is_utf8 words) h).0 in
    free-text words (and_parts (nat_le 1 (length words)) (list_all is_line_byte words)
    (and_parts (nat_le 1 (length words) && list_all is_line_byte words) (nat_le (length words) 4096) plain).0).1
free-line line.Nl h = refl
free-line (line.Field f) h = free-spaced (codes "field" ∷ f ∷ []) (name-and f [] h refl)
free-line line.Key h = refl
free-line (line.Embed name via) h =
    let both = and_parts (is_name name) (is_named via) h in
    free-spaced (codes "embed" ∷ name ∷ with_word (codes "via") via) (name-and name (with_word (codes "via") via) both.0 (with-words (codes "via") via refl both.1))
free-line line.End h = refl

-- a line before the others
pub split-feed : (w rest : List ℕ) → is_free w ≡ true → slice_split is_feed ((w ++ 10 ∷ []) ++ rest) ≡ w ∷ slice_split is_feed rest
split-feed [] rest h = refl
split-feed (b ∷ w) rest h =
    let both = and_parts (not (is_feed b)) (is_free w) h in
    rw (not-true (is_feed b) both.0, split-feed w rest both.1) refl

without-onto : (w : List ℕ) (b : ℕ) (parts : List (List ℕ)) → without_last (w ∷ onto_first b parts) ≡ w ∷ without_last (onto_first b parts)
without-onto w b [] = refl
without-onto w b (p ∷ ps) = refl

without-split : (w : List ℕ) (b : ℕ) (rest : List ℕ) (e : Bool) → let parts = if e then ([] ∷ slice_split is_feed rest) else onto_first b (slice_split is_feed rest) in
    without_last (w ∷ parts) ≡ w ∷ without_last parts
without-split w b rest true = refl
without-split w b rest false = without-onto w b (slice_split is_feed rest)

pub without-cons : (w rest : List ℕ) → without_last (w ∷ slice_split is_feed rest) ≡ w ∷ without_last (slice_split is_feed rest)
without-cons w [] = refl
without-cons w (b ∷ rest) = without-split w b rest (is_feed b)

pub lines-written : (ls : List SiteLine) → list_all is_spelled ls ≡ true → text_lines (flat_map (λ l. line_text l ++ 10 ∷ []) ls) ≡ map line_text ls
lines-written [] h = refl
lines-written (l ∷ ls) h =
    let both = and_parts (is_spelled l) (list_all is_spelled ls) h in
    let rest = flat_map (λ l. line_text l ++ 10 ∷ []) ls in
    ap without_last (split-feed (line_text l) rest (free-line l both.0))
    ∙ without-cons (line_text l) rest
    ∙ ap (λ xs. line_text l ∷ xs) (lines-written ls both.1)

lines-read : (ls : List SiteLine) → list_all is_spelled ls ≡ true → map line_of (map line_text ls) ≡ map Some ls
lines-read [] h = refl
lines-read (l ∷ ls) h =
    let both = and_parts (is_spelled l) (list_all is_spelled ls) h in
    ap₂ (λ x xs. x ∷ xs) (line-law l both.0) (lines-read ls both.1)

-- the canonical text says the parts
pub written-said : (site : Parts) → list_all is_spelled (site_lines site) ≡ true → text_says (written site) ≡ Ok site
written-said site h =
    ap (λ ls. said (map line_of ls)) (lines-written (site_lines site) h)
    ∙ ap said (lines-read (site_lines site) h)
    ∙ site_lines-said site
