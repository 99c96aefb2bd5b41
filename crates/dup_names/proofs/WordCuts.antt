-- The words of a line, cut off one after another from its start.
use Rattle.std.proofs.Common.{◌≡◌, ℕ, suc, ◌<◌, List, [], ◌∷◌, ◌++◌, map, length, take, drop, refl, ap, sym, ◌∙◌, arith, append_assoc, Bor}
use Rattle.std.proofs.lemmas.List.{map-append}
use Rattle.std.specs.Prelude.{Bool, true, false, not, if◌then◌else◌}
use Rattle.std.specs.List.{slice_split, onto_first, filter}
use Rattle.dup_names.specs.Words.{Word}
use Rattle.dup_names.specs.LineWords.{line_words, trimmed, span, starts_spaced, is_space, is_empty}

abbrev kept : List (List ℕ) → List Word
kept parts = filter (λ w. not (is_empty w)) parts

trimmed-by : (b : ℕ) (bs : List ℕ) (e : Bool) → is_space b ≡ e → line_words (trimmed bs) ≡ line_words bs →
    line_words (if e then trimmed bs else b ∷ bs) ≡ line_words (b ∷ bs)
trimmed-by b bs true is more = more ∙ rw is refl
trimmed-by b bs false is more = refl

-- spaces at the start change no words
pub words-trimmed : (bs : List ℕ) → line_words (trimmed bs) ≡ line_words bs
words-trimmed [] = refl
words-trimmed (b ∷ bs) = trimmed-by b bs (is_space b) refl (words-trimmed bs)

-- the first part, and what the others leave
abbrev Cut : List ℕ → Type 0
Cut bs = (ps : List (List ℕ)) × (slice_split is_space bs ≡ take (span bs) bs ∷ ps) × (kept ps ≡ line_words (drop (span bs) bs))

cut-by : (b : ℕ) (bs : List ℕ) (e : Bool) → is_space b ≡ e → Cut bs → Cut (b ∷ bs)
cut-by b bs true is c = rw is (slice_split is_space bs, refl, rw is refl)
cut-by b bs false is c = rw is (c.0, ap (onto_first b) c.1, c.2)

cut : (bs : List ℕ) → Cut bs
cut [] = ([], refl, refl)
cut (b ∷ bs) = cut-by b bs (is_space b) refl (cut bs)

pub words_next : (bs : List ℕ) → starts_spaced bs ≡ false → 0 < length bs → line_words bs ≡ take (span bs) bs ∷ line_words (drop (span bs) bs)
words_next [] h more = absurd (omega arith)
words_next (b ∷ bs) h more =
    let c = cut (b ∷ bs) in
    ap kept c.1 ∙ (rw h (ap (λ ws. (b ∷ take (span bs) bs) ∷ ws) (rw h at c.2)))

span-by : (b : ℕ) (bs : List ℕ) (e : Bool) → e ≡ false → 0 < (if e then 0 else suc (span bs))
span-by b bs true h = cc
span-by b bs false h = omega arith

pub span_some : (bs : List ℕ) → starts_spaced bs ≡ false → 0 < length bs → 0 < span bs
span_some [] h more = absurd (omega arith)
span_some (b ∷ bs) h more = span-by b bs (is_space b) h

pub words_step : (found : List (Bor (List ℕ))) (w : Bor (List ℕ)) (rest more : List ℕ) (all : List Word) →
    w.now ≡ take (span rest) rest → more ≡ drop (span rest) rest → starts_spaced rest ≡ false → 0 < length rest →
    map (λ x. x.now) found ++ line_words rest ≡ all → map (λ x. x.now) (found ++ w ∷ []) ++ line_words (trimmed more) ≡ all
words_step found w rest more all front back start some before =
    let words : line_words (trimmed more) ≡ line_words (drop (span rest) rest) = words-trimmed more ∙ ap line_words back in
    rw (map-append (λ (x : Bor (List ℕ)). x.now) found (w ∷ []), words, front)
    (append_assoc (map (λ x. x.now) found) (take (span rest) rest ∷ []) (line_words (drop (span rest) rest))
    ∙ ap (λ ws. map (λ x. x.now) found ++ ws) (sym (words_next rest start some)) ∙ before)
