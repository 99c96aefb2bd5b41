-- A line without needless spaces is no longer than it was.
use Rattle.std.proofs.Common.{◌≡◌, ℕ, suc, ◌+◌, ◌<◌, ◌≤◌, List, [], ◌∷◌, ◌++◌, length, take, get_or, refl, sym, subst, arith, length-append}
use Rattle.std.specs.Prelude.{Bool, true, false, not, Option, Some, None, IfSome, nat_eq, if◌then◌else◌}
use Rattle.std.specs.List.{flat_map, filter, onto_first, slice_split}
use Rattle.std.proofs.lemmas.List.{take_all, take_more}
use Rattle.dup_names.specs.LineWords.{is_empty, is_space, line_words, spaced, trimmed}
use Rattle.dup_names.specs.Words.{Word}
use Rattle.dup_template.specs.BodyLines.{body_text, longest_of}
use Rattle.dup_template.specs.declared.statement.Statement.{Statement}
use Rattle.dup_site.specs.SaidBody.{body_said}
use Rattle.dup_site.specs.SaidTexts.{plain_line, single_spaced}
use Rattle.dup_site.proofs.BodiesInTexts.{bodies_are_canonical}

-- the bytes of words, and one more for each
abbrev room : List Word → ℕ
room [] = 0
room (w ∷ ws) = suc (length w) + room ws

onto_room : (b : ℕ) (ps : List Word) (n : ℕ) → room ps ≡ suc n → room (onto_first b ps) ≡ suc (suc n)
onto_room b [] n is = absurd (omega (arith, is))
onto_room b (p ∷ ps) n is = omega (arith, is)

split_room : (bs : Word) → room (slice_split is_space bs) ≡ suc (length bs)
split_room [] = refl
split_room (b ∷ bs) = by_space (is_space b) (split_room bs)
  where
    by_space : (s : Bool) → room (slice_split is_space bs) ≡ suc (length bs) →
        room (if s then ([] ∷ slice_split is_space bs) else onto_first b (slice_split is_space bs)) ≡ suc (suc (length bs))
    by_space true is = omega (arith, is)
    by_space false is = onto_room b (slice_split is_space bs) (length bs) is

filter_room : (ws : List Word) → room (filter (λ w. not (is_empty w)) ws) ≤ room ws
filter_room [] = omega arith
filter_room (w ∷ ws) = by_test (not (is_empty w)) (filter_room ws)
  where
    by_test : (b : Bool) → room (filter (λ w. not (is_empty w)) ws) ≤ room ws →
        room (if b then w ∷ filter (λ w. not (is_empty w)) ws else filter (λ w. not (is_empty w)) ws) ≤ suc (length w) + room ws
    by_test true less = omega (arith, less)
    by_test false less = omega (arith, less)

spaced_room : (w : Word) (ws : List Word) → suc (length (spaced (w ∷ ws))) ≤ room (w ∷ ws)
spaced_room w [] = omega arith
spaced_room w (v ∷ ws) =
    let rest = spaced_room v ws in
    let long : length (w ++ 32 ∷ spaced (v ∷ ws)) ≡ length w + suc (length (spaced (v ∷ ws))) = length-append w (32 ∷ spaced (v ∷ ws)) in
    omega (arith, rest, long)

single_fits : (ws : List Word) (n : ℕ) → room ws ≤ suc n → longest_of (single_spaced ws) ≤ n
single_fits [] n less = omega arith
single_fits (w ∷ ws) n less = let long = spaced_room w ws in omega (arith, long, less)

plain_fits : (bs : Word) → longest_of (plain_line bs) ≤ length bs
plain_fits [] = omega arith
plain_fits (b ∷ rest) = by_test (nat_eq b 35) (nat_eq b 61)
  where
    words : longest_of (single_spaced (line_words (b ∷ rest))) ≤ length (b ∷ rest)
    words =
        single_fits (line_words (b ∷ rest)) (length (b ∷ rest))
        (let all = split_room (b ∷ rest) in let some = filter_room (slice_split is_space (b ∷ rest)) in omega (arith, all, some))

    by_test : (c e : Bool) → longest_of (if c then [] else (if e then (b ∷ rest) ∷ [] else single_spaced (line_words (b ∷ rest)))) ≤ length (b ∷ rest)
    by_test true e = omega arith
    by_test false true = omega arith
    by_test false false = words

trimmed_fits : (bs : Word) → length (trimmed bs) ≤ length bs
trimmed_fits [] = omega arith
trimmed_fits (b ∷ bs) = by_test (is_space b) (trimmed_fits bs)
  where
    by_test : (s : Bool) → length (trimmed bs) ≤ length bs → length (if s then trimmed bs else b ∷ bs) ≤ suc (length bs)
    by_test true less = omega (arith, less)
    by_test false less = omega arith

longest_both : (xs ys : List Word) (n : ℕ) → longest_of xs ≤ n → longest_of ys ≤ n → longest_of (xs ++ ys) ≤ n
longest_both [] ys n p q = q
longest_both (x ∷ xs) ys n p q = let rest = longest_both xs ys n (omega (arith, p)) q in omega (arith, p, rest)

plain_lines_fit : (lines : List Word) (n : ℕ) → longest_of lines ≤ n → longest_of (flat_map (λ bytes. plain_line (trimmed bytes)) lines) ≤ n
plain_lines_fit [] n less = omega arith
plain_lines_fit (l ∷ ls) n less =
    longest_both (plain_line (trimmed l)) (flat_map (λ bytes. plain_line (trimmed bytes)) ls) n
    (let short = plain_fits (trimmed l) in let cut = trimmed_fits l in omega (arith, short, cut, less))
    (plain_lines_fit ls n (omega (arith, less)))

-- the canonical lines of a body are no longer than the lines that say it
said_fits : (lines : List Word) (body : List Statement) (n : ℕ) → body_said lines ≡ Some body → longest_of lines ≤ n → longest_of (body_text body) ≤ n
said_fits lines body n is less = subst (λ (ls : List Word). longest_of ls ≤ n) (bodies_are_canonical lines body is) (plain_lines_fit lines n less)

pub read_fits : (lines : List Word) (read : Option (List Statement)) (i n : ℕ) → read ≡ body_said lines → length lines ≤ i → longest_of (take i lines) ≤ n →
    IfSome read (λ body. longest_of (body_text body) ≤ n)
read_fits lines None i n is all less = tt
read_fits lines (Some body) i n is all less =
    said_fits lines body n (sym is) (subst (λ (ls : List Word). longest_of ls ≤ n) (take_all i lines all) less)

-- one line more
pub longest_more : (ls : List Word) (i n : ℕ) (w : Word) → i < length ls → length (get_or ls i w) ≤ n → longest_of (take i ls) ≤ n → longest_of (take (i + 1) ls) ≤ n
longest_more ls i n w within fits less =
    subst (λ (xs : List Word). longest_of xs ≤ n) (sym (take_more ls i w within))
    (longest_both (take i ls) (get_or ls i w ∷ []) n less (omega (arith, fits)))
