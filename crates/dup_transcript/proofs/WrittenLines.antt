-- Lines that are written one after another, and read again.
use Rattle.std.proofs.Common.{◌≡◌, ℕ, ◌+◌, ◌<◌, ◌≤◌, false, refl, ap, ◌∙◌, List, [], ◌∷◌, ◌++◌, length, append_assoc, length-append, arith}
use Rattle.std.specs.List.{AllByRecursion}
use Rattle.std.specs.Str.Lines.{strip_carriage_return}
use Rattle.std.proofs.lemmas.Bool.Decides.{nat_tests}
use Rattle.std.proofs.lemmas.List.Elements.{All-from_recursion}
use Rattle.std.proofs.lemmas.List.Splits.{length-slice_split, slice_split_at}
use Rattle.dup_names.specs.Lines.{Reading, Next, if_fits, is_feed, line, max_input, max_line, parts, reading_of_parts, without_last}
use Rattle.dup_names.specs.Words.{Word}
use Rattle.dup_transcript.specs.WrittenLines.{HasNoFeed, IsPlainLine, LinesAreRead, LinesAreFound, reading_of, text_of}

-- the parts of a text that begins with a line
line_first : (text rest : Word) → HasNoFeed text → parts (line text ++ rest) ≡ text ∷ parts rest
line_first text rest none =
    ap parts (append_assoc text (10 ∷ []) rest) ∙ slice_split_at is_feed text 10 rest (All-from_recursion (λ b. is_feed b ≡ false) text none) refl

some_part : (text : Word) → 0 < length (parts text)
some_part text = simp (length-slice_split is_feed text) (omega arith)

fits : (number taken n : ℕ) (r : Reading) → n ≤ max_line → taken + n + 1 ≤ max_input → if_fits number taken n 1 r ≡ r
fits number taken n r short within = grind (arith, nat_tests)

-- a plain line that an end follows
one_read : (number taken : ℕ) (text : Word) (ps : List Word) → IsPlainLine text → 0 < length ps → taken + length text + 1 ≤ max_input
    → reading_of_parts number taken (text ∷ ps) ≡ Next text (reading_of_parts (number + 1) (taken + length text + 1) ps)
one_read number taken text [] plain some within = absurd (omega arith)
one_read number taken text (p ∷ ps) plain some within =
    let rest = reading_of_parts (number + 1) (taken + length text + 1) (p ∷ ps) in
    fits number taken (length text) (Next (strip_carriage_return text) rest) plain.fits within ∙ ap (λ (w : Word). Next w rest) plain.no_return

line_length : (text : Word) (lines : List Word) → length (text_of (text ∷ lines)) ≡ length text + 1 + length (text_of lines)
line_length text lines = simp length-append (omega arith)

lines_read : (number taken : ℕ) (lines : List Word) → AllByRecursion IsPlainLine lines → taken + length (text_of lines) ≤ max_input
    → reading_of_parts number taken (parts (text_of lines)) ≡ reading_of lines
lines_read number taken [] plain within = refl
lines_read number taken (text ∷ lines) plain within =
    let whole : length (text_of (text ∷ lines)) ≡ length text + 1 + length (text_of lines) = line_length text lines in
    ap (reading_of_parts number taken) (line_first text (text_of lines) plain.0.no_feed)
    ∙ one_read number taken text (parts (text_of lines)) plain.0 (some_part (text_of lines)) (omega (arith, within, whole))
    ∙ ap (λ (r : Reading). Next text r) (lines_read (number + 1) (taken + length text + 1) lines plain.1 (omega (arith, within, whole)))

pub lines_are_read : LinesAreRead
lines_are_read lines plain within = lines_read 0 0 lines plain (omega (arith, within))

kept_first : (text : Word) (ps : List Word) → 0 < length ps → without_last (text ∷ ps) ≡ text ∷ without_last ps
kept_first text [] some = absurd (omega arith)
kept_first text (p ∷ ps) some = refl

pub lines_are_found : LinesAreFound
lines_are_found [] none = refl
lines_are_found (text ∷ lines) none =
    ap without_last (line_first text (text_of lines) none.0)
    ∙ kept_first text (parts (text_of lines)) (some_part (text_of lines))
    ∙ ap (λ (ls : List Word). text ∷ ls) (lines_are_found lines none.1)
