-- Words of names, paths and keywords, and a line of such words.
use Rattle.std.proofs.Common.{◌≡◌, ℕ, List, [], ◌∷◌, ◌++◌, length, refl, ap, subst}
use Rattle.std.specs.Prelude.{Bool, true, false, not, ◌&&◌, ◌||◌, nat_eq, nat_le, if◌then◌else◌}
use Rattle.std.specs.List.{list_all, slice_split}
use Rattle.std.proofs.lemmas.Bool.{and_parts, and_from, or_left, or_right, eqb-true, false_from_ne_true, false≢true}
use Rattle.dup_names.specs.Grammar.{is_name, is_path, is_name_byte, is_key_byte, is_path_byte, is_lower, are_segments}
use Rattle.dup_names.specs.LineWords.{line_words, spaced, is_space, is_empty}
use Rattle.dup_names.specs.Words.{Word}

-- a byte of a word: of a name, a path or a keyword
abbrev pub is_word_byte : ℕ → Bool
is_word_byte b = is_path_byte b || nat_eq b 47

abbrev pub is_word : Word → Bool
is_word w = not (is_empty w) && list_all is_word_byte w

pub space-no : (b : ℕ) → is_word_byte b ≡ true → is_space b ≡ false
space-no b h = false_from_ne_true (is_space b) (λ e. false≢true (subst (λ (x : ℕ). is_word_byte x ≡ true) (eqb-true b 32 e) h))

split-end : (w : Word) → list_all is_word_byte w ≡ true → slice_split is_space w ≡ w ∷ []
split-end [] h = refl
split-end (b ∷ w) h =
    let both = and_parts (is_word_byte b) (list_all is_word_byte w) h in
    rw (space-no b both.0, split-end w both.1) refl

pub split-word : (w : Word) (rest : List ℕ) → list_all is_word_byte w ≡ true → slice_split is_space (w ++ 32 ∷ rest) ≡ w ∷ slice_split is_space rest
split-word [] rest h = refl
split-word (b ∷ w) rest h =
    let both = and_parts (is_word_byte b) (list_all is_word_byte w) h in
    rw (space-no b both.0, split-word w rest both.1) refl

filled-no : (w : Word) → is_word w ≡ true → is_empty w ≡ false
filled-no [] h = cc
filled-no (b ∷ w) h = refl

pub bytes-of : (w : Word) → is_word w ≡ true → list_all is_word_byte w ≡ true
bytes-of [] h = refl
bytes-of (b ∷ w) h = h

pub words-law : (ws : List Word) → list_all is_word ws ≡ true → line_words (spaced ws) ≡ ws
words-law [] h = refl
words-law (w ∷ []) h =
    let both = and_parts (is_word w) true h in
    rw (split-end w (bytes-of w both.0), filled-no w both.0) refl
words-law (w ∷ v ∷ ws) h =
    let both = and_parts (is_word w) (list_all is_word (v ∷ ws)) h in
    rw (split-word w (spaced (v ∷ ws)) (bytes-of w both.0), filled-no w both.0) (ap (λ xs. w ∷ xs) (words-law (v ∷ ws) both.1))

-- names and paths are words
path_byte-word : (b : ℕ) → is_path_byte b ≡ true → is_word_byte b ≡ true
path_byte-word b h = or_left (is_path_byte b) (nat_eq b 47) h

name_byte-word : (b : ℕ) → is_name_byte b ≡ true → is_word_byte b ≡ true
name_byte-word b h = path_byte-word b (or_left (is_key_byte b) (nat_eq b 46) (or_left (is_name_byte b) (nat_eq b 45) h))

name_bytes : (w : Word) → list_all is_name_byte w ≡ true → list_all is_word_byte w ≡ true
name_bytes [] h = refl
name_bytes (b ∷ w) h =
    let both = and_parts (is_name_byte b) (list_all is_name_byte w) h in
    and_from (is_word_byte b) (list_all is_word_byte w) (name_byte-word b both.0) (name_bytes w both.1)

pub name-word : (w : Word) → is_name w ≡ true → is_word w ≡ true
name-word [] h = cc
name-word (b ∷ w) h =
    let first = and_parts (is_lower b && list_all is_name_byte (b ∷ w)) (nat_le (length (b ∷ w)) 32) h in
    name_bytes (b ∷ w) (and_parts (is_lower b) (list_all is_name_byte (b ∷ w)) first.0).1

segments-cons : (s : Bool) (b : ℕ) (w : Word) (e : Bool) → nat_eq b 47 ≡ e →
    ((t : Bool) → are_segments t w ≡ true → list_all is_word_byte w ≡ true) →
    (if e then (not s && are_segments true w) else (is_path_byte b && are_segments false w)) ≡ true → list_all is_word_byte (b ∷ w) ≡ true
segments-cons s b w true is more h =
    and_from (is_word_byte b) (list_all is_word_byte w) (or_right (is_path_byte b) (nat_eq b 47) is)
    (more true (and_parts (not s) (are_segments true w) h).1)
segments-cons s b w false is more h =
    let both = and_parts (is_path_byte b) (are_segments false w) h in
    and_from (is_word_byte b) (list_all is_word_byte w) (path_byte-word b both.0) (more false both.1)

segments-bytes : (w : Word) (after_slash : Bool) → are_segments after_slash w ≡ true → list_all is_word_byte w ≡ true
segments-bytes [] s h = refl
segments-bytes (b ∷ w) s h = segments-cons s b w (nat_eq b 47) refl (segments-bytes w) h

pub path-word : (w : Word) → is_path w ≡ true → is_word w ≡ true
path-word [] h = cc
path-word (b ∷ []) h = and_from (is_word_byte b) true (or_right (is_path_byte b) (nat_eq b 47) h) refl
path-word (b ∷ c ∷ w) h =
    let both = and_parts (nat_eq b 47 && nat_le (length (b ∷ c ∷ w)) 200) (are_segments true (c ∷ w)) h in
    and_from (is_word_byte b) (list_all is_word_byte (c ∷ w))
    (or_right (is_path_byte b) (nat_eq b 47) (and_parts (nat_eq b 47) (nat_le (length (b ∷ c ∷ w)) 200) both.0).0)
    (segments-bytes (c ∷ w) true both.1)
