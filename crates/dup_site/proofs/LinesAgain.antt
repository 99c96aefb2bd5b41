-- A line that says something is written as it stands, save its spaces.
use Rattle.std.proofs.Common.{◌≡◌, ℕ, ◌+◌, List, [], ◌∷◌, ◌++◌, map, refl, ap, sym, subst, ◌∙◌, append_assoc, append-nil}
use Rattle.std.specs.Prelude.{Bool, true, false, ◌&&◌, Option, Some, None, Result, Ok, codes, nat_eq, if◌then◌else◌}
use Rattle.std.specs.List.{flat_map, list_all}
use Rattle.std.specs.Str.{is_utf8}
use Rattle.std.proofs.lemmas.Bool.{and_parts, eqb-true}
use Rattle.std.proofs.lemmas.List.{map-append}
use Rattle.dup_names.specs.Words.{Word, same}
use Rattle.dup_names.specs.Grammar.{is_name, is_path}
use Rattle.dup_names.specs.LineWords.{line_words, spaced, trimmed}
use Rattle.dup_names.specs.Lines.{text_lines}
use Rattle.dup_names.proofs.ObjectOrder.{bytes_same}
use Rattle.dup_template.specs.Texts.{is_plain, is_prefix}
use Rattle.dup_template.specs.declared.site.PageRule.TheVariants.{Fixed, Family}
use Rattle.dup_template.specs.declared.site.Parts.{Parts}
use Rattle.dup_site.specs.declared.site_line.SiteLine.{SiteLine}
use Rattle.dup_site.specs.declared.site_line.SiteLine.TheVariants as line
use Rattle.dup_site.specs.declared.site_line.Head.TheVariants.{Each}
use Rattle.dup_site.specs.Canonical.{site_lines, template_lines}
use Rattle.dup_site.specs.Draft.{Draft, Open, blank, finished, onward, parts_of, said_from, step, step_at}
use Rattle.dup_site.specs.SaidTexts.{TextsAreCanonical, plain_line, single_spaced}
use Rattle.dup_template.specs.BodyLines.{with_word}
use Rattle.dup_site.specs.Spelling.{Rest, at_end, by_start, by_word, by_words, each_line, family_line, if_head, kind_line, line_of, line_text, link_head, marked, marked_line, name_first, one_name, page_line, path_first, say_line, template_head, where_so, with_read}
use Rattle.dup_site.proofs.DraftLines.{Behind, Fits, draft_lines, saying, step_behind}

-- where these words have a form, the line that they say is written as they are
abbrev Shows : List Word → Option SiteLine → Type 0
Shows ws o = (l : SiteLine) → o ≡ Some l → spaced ws ∷ [] ≡ map line_text (saying l)

shown : (ws : List Word) (k l : SiteLine) → spaced ws ∷ [] ≡ map line_text (saying k) → k ≡ l → spaced ws ∷ [] ≡ map line_text (saying l)
shown ws k l written is = written ∙ ap (λ (x : SiteLine). map line_text (saying x)) is

so_line : (b : Bool) (k l : SiteLine) → where_so b k ≡ Some l → (b ≡ true) × (k ≡ l)
so_line true k l is = (refl, cc)
so_line false k l is = absurd (cc)

ended : (ws : List Word) (k l : SiteLine) → at_end ws k ≡ Some l → (ws ≡ []) × (k ≡ l)
ended [] k l is = (refl, cc)
ended (w ∷ ws) k l is = absurd (cc)

-- a word that passes a test, and the words behind it
first_read : (b : Bool) (w : Word) (ws : List Word) (f : Word × List Word → Option SiteLine) (l : SiteLine) → with_read (if b then Some (w, ws) else None) f ≡ Some l → f (w, ws) ≡ Some l
first_read true w ws f l is = is
first_read false w ws f l is = absurd (cc)

name_read : (ws : List Word) (f : Word × List Word → Option SiteLine) (l : SiteLine) → with_read (name_first ws) f ≡ Some l →
    (n : Word) × ((rest : List Word) × (ws ≡ n ∷ rest) × (f (n, rest) ≡ Some l))
name_read [] f l is = absurd (cc)
name_read (w ∷ ws) f l is = (w, (ws, refl, first_read (is_name w) w ws f l is))

path_read : (test : Word → Bool) (ws : List Word) (f : Word × List Word → Option SiteLine) (l : SiteLine) → with_read (path_first test ws) f ≡ Some l →
    (n : Word) × ((rest : List Word) × (ws ≡ n ∷ rest) × (f (n, rest) ≡ Some l))
path_read test [] f l is = absurd (cc)
path_read test (w ∷ ws) f l is = (w, (ws, refl, first_read (test w) w ws f l is))

-- a mark and a name, if they stand there, and the words behind them
abbrev IsMarked : Word → (Option Word × List Word → Option SiteLine) → SiteLine → List Word → Type 0
IsMarked word f l ws = (via : Option Word) × ((rest : List Word) × (ws ≡ with_word word via ++ rest) × (f (via, rest) ≡ Some l))

marked_read : (word : Word) (ws : List Word) (f : Option Word × List Word → Option SiteLine) (l : SiteLine) → with_read (marked word ws) f ≡ Some l → IsMarked word f l ws
marked_read word [] f l is = (None, ([], refl, is))
marked_read word (w ∷ ws) f l is = by_same (same w word) refl is
  where
    by_name : (ws : List Word) → w ≡ word → with_read (with_read {X = Word × List Word} (name_first ws) (λ n. let r : Rest (Option Word) = Some (Some n.0, n.1) in r)) f ≡ Some l → IsMarked word f l (w ∷ ws)
    by_name [] starts is = absurd (cc)
    by_name (v ∷ vs) starts is = (Some v, (vs, ap (λ x. x ∷ v ∷ vs) starts, by_test (is_name v) is))
      where
        by_test : (b : Bool) → with_read (with_read {X = Word × List Word} (if b then Some (v, vs) else None) (λ n. let r : Rest (Option Word) = Some (Some n.0, n.1) in r)) f ≡ Some l → f (Some v, vs) ≡ Some l
        by_test true is = is
        by_test false is = absurd (cc)

    by_same : (b : Bool) → same w word ≡ b → with_read (let r : Rest (Option Word) = (if b then with_read {X = Word × List Word} (name_first ws) (λ n. Some (Some n.0, n.1)) else Some (None, w ∷ ws)) in r) f ≡ Some l → IsMarked word f l (w ∷ ws)
    by_same true tells is = by_name ws (bytes_same w word tells) is
    by_same false tells is = (None, (w ∷ ws, refl, is))

kind_shows : (ws : List Word) → Shows (codes "kind" ∷ ws) (kind_line ws)
kind_shows [] l is = absurd (cc)
kind_shows (name ∷ fields) l is = shown (codes "kind" ∷ name ∷ fields) (line.Kind name fields) l refl (so_line (is_name name && list_all is_name fields) (line.Kind name fields) l is).1

end_shows : (word : Word) (k : SiteLine) → word ∷ [] ≡ map line_text (saying k) → (ws : List Word) → Shows (word ∷ ws) (at_end ws k)
end_shows word k written ws l is =
    let e = ended ws k l is in
    ap (λ (vs : List Word). spaced (word ∷ vs) ∷ []) e.0 ∙ shown (word ∷ []) k l written e.1

one_shows : (word : Word) (f : Word → SiteLine) → ((n : Word) → spaced (word ∷ n ∷ []) ∷ [] ≡ map line_text (saying (f n))) → (ws : List Word) → Shows (word ∷ ws) (one_name f ws)
one_shows word f written ws l is =
    let r = name_read ws (λ n. at_end n.1 (f n.0)) l is in
    let e = ended r.1.0 (f r.0) l r.1.2 in
    ap (λ (vs : List Word). spaced (word ∷ vs) ∷ []) (r.1.1 ∙ ap (λ (vs : List Word). r.0 ∷ vs) e.0) ∙ shown (word ∷ r.0 ∷ []) (f r.0) l (written r.0) e.1

marked_shows : (word mark : Word) (f : Word → Option Word → SiteLine) → ((n : Word) (via : Option Word) → spaced (word ∷ n ∷ with_word mark via) ∷ [] ≡ map line_text (saying (f n via))) →
    (ws : List Word) → Shows (word ∷ ws) (marked_line mark f ws)
marked_shows word mark f written ws l is =
    let r = name_read ws (λ n. with_read (marked mark n.1) (λ m. at_end m.1 (f n.0 m.0))) l is in
    let m = marked_read mark r.1.0 (λ m. at_end m.1 (f r.0 m.0)) l r.1.2 in
    let e = ended m.1.0 (f r.0 m.0) l m.1.2 in
    ap (λ (vs : List Word). spaced (word ∷ vs) ∷ [])
    (r.1.1 ∙ ap (λ (vs : List Word). r.0 ∷ vs) (m.1.1 ∙ ap (λ (vs : List Word). with_word mark m.0 ++ vs) e.0 ∙ append-nil (with_word mark m.0)))
    ∙ shown (word ∷ r.0 ∷ with_word mark m.0) (f r.0 m.0) l (written r.0 m.0) e.1

-- behind `each` and a name
each_named : (ws : List Word) (kind : Word) (rest : List Word) (l : SiteLine) → ws ≡ kind ∷ rest →
    with_read (marked (codes "by") rest) (λ by. with_read (marked (codes "order") by.1) (λ last. at_end last.1 (line.Open (Each kind by.0 last.0)))) ≡ Some l →
    spaced (codes "each" ∷ ws) ∷ [] ≡ map line_text (saying l)
each_named ws kind rest l starts is =
    let b = marked_read (codes "by") rest (λ by. with_read (marked (codes "order") by.1) (λ last. at_end last.1 (line.Open (Each kind by.0 last.0)))) l is in
    let o = marked_read (codes "order") b.1.0 (λ last. at_end last.1 (line.Open (Each kind b.0 last.0))) l b.1.2 in
    let e = ended o.1.0 (line.Open (Each kind b.0 o.0)) l o.1.2 in
    let last : b.1.0 ≡ with_word (codes "order") o.0 =
    o.1.1 ∙ ap (λ (vs : List Word). with_word (codes "order") o.0 ++ vs) e.0 ∙ append-nil (with_word (codes "order") o.0) in
    let words : ws ≡ kind ∷ (with_word (codes "by") b.0 ++ with_word (codes "order") o.0) =
    starts ∙ ap (λ (vs : List Word). kind ∷ vs) (b.1.1 ∙ ap (λ (vs : List Word). with_word (codes "by") b.0 ++ vs) last) in
    ap (λ (vs : List Word). spaced (codes "each" ∷ vs) ∷ []) words
    ∙ shown (codes "each" ∷ kind ∷ (with_word (codes "by") b.0 ++ with_word (codes "order") o.0)) (line.Open (Each kind b.0 o.0)) l refl e.1

each_shows : (ws : List Word) → Shows (codes "each" ∷ ws) (each_line ws)
each_shows ws l is =
    let r = name_read ws (λ n. with_read (marked (codes "by") n.1) (λ by. with_read (marked (codes "order") by.1) (λ last. at_end last.1 (line.Open (Each n.0 by.0 last.0))))) l is in
    each_named ws r.0 r.1.0 l r.1.1 r.1.2

page_shows : (ws : List Word) → Shows (codes "page" ∷ ws) (page_line ws)
page_shows ws l is =
    let p = path_read is_path ws (λ p. with_read (name_first p.1) (λ n. at_end n.1 (line.Page (Fixed p.0 n.0)))) l is in
    let n = name_read p.1.0 (λ n. at_end n.1 (line.Page (Fixed p.0 n.0))) l p.1.2 in
    let e = ended n.1.0 (line.Page (Fixed p.0 n.0)) l n.1.2 in
    ap (λ (vs : List Word). spaced (codes "page" ∷ vs) ∷ []) (p.1.1 ∙ ap (λ (vs : List Word). p.0 ∷ vs) (n.1.1 ∙ ap (λ (vs : List Word). n.0 ∷ vs) e.0))
    ∙ shown (codes "page" ∷ p.0 ∷ n.0 ∷ []) (line.Page (Fixed p.0 n.0)) l refl e.1

family_shows : (ws : List Word) → Shows (codes "family" ∷ ws) (family_line ws)
family_shows ws l is =
    let p = path_read is_prefix ws (λ p. with_read (name_first p.1) (λ n. at_end n.1 (line.Page (Family p.0 n.0)))) l is in
    let n = name_read p.1.0 (λ n. at_end n.1 (line.Page (Family p.0 n.0))) l p.1.2 in
    let e = ended n.1.0 (line.Page (Family p.0 n.0)) l n.1.2 in
    ap (λ (vs : List Word). spaced (codes "family" ∷ vs) ∷ []) (p.1.1 ∙ ap (λ (vs : List Word). p.0 ∷ vs) (n.1.1 ∙ ap (λ (vs : List Word). n.0 ∷ vs) e.0))
    ∙ shown (codes "family" ∷ p.0 ∷ n.0 ∷ []) (line.Page (Family p.0 n.0)) l refl e.1

-- where the first word is this one
if_same : (w word : Word) (ws : List Word) (x y : Option SiteLine) → Shows (word ∷ ws) x → Shows (w ∷ ws) y → Shows (w ∷ ws) (if same w word then x else y)
if_same w word ws x y first later = by_test (same w word) refl
  where
    by_test : (b : Bool) → same w word ≡ b → Shows (w ∷ ws) (if b then x else y)
    by_test true tells = subst (λ (v : Word). Shows (v ∷ ws) x) (sym (bytes_same w word tells)) first
    by_test false tells = later

none_shows : (ws : List Word) → Shows ws None
none_shows ws l is = absurd (cc)

word_shows : (w : Word) (ws : List Word) → Shows (w ∷ ws) (by_word w ws)
word_shows w ws =
    if_same w (codes "kind") ws _ _ (kind_shows ws)
    (if_same w (codes "template") ws _ _ (marked_shows (codes "template") (codes "of") template_head (λ n via. refl) ws)
    (if_same w (codes "page") ws _ _ (page_shows ws)
    (if_same w (codes "family") ws _ _ (family_shows ws)
    (if_same w (codes "nl") ws _ _ (end_shows (codes "nl") line.Nl refl ws)
    (if_same w (codes "field") ws _ _ (one_shows (codes "field") line.Field (λ n. refl) ws)
    (if_same w (codes "key") ws _ _ (end_shows (codes "key") line.Key refl ws)
    (if_same w (codes "if") ws _ _ (one_shows (codes "if") if_head (λ n. refl) ws)
    (if_same w (codes "each") ws _ _ (each_shows ws)
    (if_same w (codes "embed") ws _ _ (marked_shows (codes "embed") (codes "via") line.Embed (λ n via. refl) ws)
    (if_same w (codes "link") ws _ _ (marked_shows (codes "link") (codes "via") link_head (λ n via. refl) ws)
    (if_same w (codes "end") ws _ _ (end_shows (codes "end") line.End refl ws) (none_shows (w ∷ ws)))))))))))))

-- what a line says is written as the line stands, save its spaces
abbrev pub Written : List Word → Option SiteLine → Type 0
Written ls o = (l : SiteLine) → o ≡ Some l → ls ≡ map line_text (saying l)

nothing_written : Written [] (Some line.Blank)
nothing_written l is = let same : line.Blank ≡ l = cc in ap (λ (x : SiteLine). map line_text (saying x)) same

words_written : (ws : List Word) → Written (single_spaced ws) (by_words ws)
words_written [] = nothing_written
words_written (w ∷ ws) = word_shows w ws

text_written : (rest : List ℕ) → Written ((61 ∷ rest) ∷ []) (say_line rest)
text_written [] l is = absurd (cc)
text_written (b ∷ text) l is =
    let so = so_line (nat_eq b 32 && is_plain text) (line.Say text) l is in
    let space : b ≡ 32 = eqb-true b 32 (and_parts (nat_eq b 32) (is_plain text) so.0).0 in
    ap (λ (x : ℕ). (61 ∷ x ∷ text) ∷ []) space ∙ ap (λ (x : SiteLine). map line_text (saying x)) so.1

start_written : (bytes : List ℕ) → Written (plain_line bytes) (by_start bytes)
start_written [] = nothing_written
start_written (b ∷ rest) = by_test (nat_eq b 35) (nat_eq b 61) refl
  where
    by_test : (c e : Bool) → nat_eq b 61 ≡ e →
        Written (if c then [] else (if e then (b ∷ rest) ∷ [] else single_spaced (line_words (b ∷ rest)))) (if c then Some line.Blank else (if e then say_line rest else by_words (line_words (b ∷ rest))))
    by_test true e tells = nothing_written
    by_test false true tells = subst (λ (x : ℕ). Written ((x ∷ rest) ∷ []) (say_line rest)) (sym (eqb-true b 61 tells)) (text_written rest)
    by_test false false tells = words_written (line_words (b ∷ rest))

pub line_written : (bytes : Word) → Written (plain_line (trimmed bytes)) (line_of bytes)
line_written bytes = by_test (is_utf8 bytes)
  where
    by_test : (b : Bool) → Written (plain_line (trimmed bytes)) (if b then by_start (trimmed bytes) else None)
    by_test true = start_written (trimmed bytes)
    by_test false = λ l is. absurd (cc)

abbrev good : Parts → Result Parts ℕ
good parts = Ok parts

abbrev plain : List Word → List Word
plain ls = flat_map (λ bytes. plain_line (trimmed bytes)) ls

lines_written : (ls : List Word) (n : ℕ) (d : Draft) (parts : Parts) → Fits d.stack d.pages → said_from n d (map line_of ls) ≡ good parts →
    map line_text (draft_lines d) ++ plain ls ≡ map line_text (site_lines parts)
lines_written [] n d parts fits says = by_stack d.stack refl says
  where
    by_stack : (os : List Open) → d.stack ≡ os → finished n d os ≡ good parts → map line_text (draft_lines d) ++ [] ≡ map line_text (site_lines parts)
    by_stack (o ∷ outer) is says = absurd (cc)
    by_stack [] is says =
        let same : parts_of d ≡ parts = cc in
        append-nil (map line_text (draft_lines d))
        ∙ ap (map line_text) (ap (λ (os : List Open). draft_lines (record { kinds = d.kinds; templates = d.templates; pages = d.pages; stack = os })) is
        ∙ ap (λ ps. map (λ k. line.Kind k.name k.fields) d.kinds ++ (flat_map template_lines d.templates ++ ps)) (append-nil (map line.Page d.pages)))
        ∙ ap (λ (p : Parts). map line_text (site_lines p)) same
lines_written (bytes ∷ ls) n d parts fits says = by_line (line_of bytes) (line_written bytes) (λ e. lines_written ls (n + 1) e parts) says
  where
    by_draft : (k : SiteLine) (o : Option Draft) → step d k ≡ o → plain_line (trimmed bytes) ≡ map line_text (saying k) →
        ((e : Draft) → Fits e.stack e.pages → said_from (n + 1) e (map line_of ls) ≡ good parts → map line_text (draft_lines e) ++ plain ls ≡ map line_text (site_lines parts)) →
        onward n o (λ e. said_from (n + 1) e (map line_of ls)) ≡ good parts →
        map line_text (draft_lines d) ++ (plain_line (trimmed bytes) ++ plain ls) ≡ map line_text (site_lines parts)
    by_draft k None goes written onward says = absurd (cc)
    by_draft k (Some e) goes written onward says =
        let b : Behind d e (saying k) = step_behind d k e fits goes in
        ap (λ (xs : List Word). map line_text (draft_lines d) ++ (xs ++ plain ls)) written
        ∙ sym (append_assoc (map line_text (draft_lines d)) (map line_text (saying k)) (plain ls))
        ∙ ap (λ (xs : List Word). xs ++ plain ls) (sym (map-append line_text (draft_lines d) (saying k)) ∙ ap (map line_text) (sym b.lines))
        ∙ onward e b.fits says

    by_line : (o : Option SiteLine) → Written (plain_line (trimmed bytes)) o →
        ((e : Draft) → Fits e.stack e.pages → said_from (n + 1) e (map line_of ls) ≡ good parts → map line_text (draft_lines e) ++ plain ls ≡ map line_text (site_lines parts)) →
        onward n (step_at d o) (λ e. said_from (n + 1) e (map line_of ls)) ≡ good parts →
        map line_text (draft_lines d) ++ (plain_line (trimmed bytes) ++ plain ls) ≡ map line_text (site_lines parts)
    by_line None written onward says = absurd (cc)
    by_line (Some k) written onward says = by_draft k (step d k) refl (written k refl) onward says

pub texts_are_canonical : TextsAreCanonical
texts_are_canonical text parts says = lines_written (text_lines text) 1 blank parts tt says
