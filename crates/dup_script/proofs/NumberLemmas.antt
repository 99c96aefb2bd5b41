-- What is known of a number before all its digits are read.
use Rattle.std.proofs.Common.{◌≡◌, ℕ, ◌+◌, ◌-◌, ◌*◌, ◌^◌, ◌<◌, ◌≤◌, Bool, true, false, ◌&&◌, [], ◌∷◌, refl, sym, ap, ◌∙◌, drop, get_or, length, add-one, arith, if◌then◌else◌, nat_lt}
use Rattle.std.specs.Prelude.{Some, None}
use Rattle.std.specs.List.{list_all}
use Rattle.std.proofs.Math.Seq.{drop-cons}
use Rattle.std.proofs.lemmas.List.{drop_all}
use Rattle.std.proofs.lemmas.Bool.Decides.{nat_tests}
use Rattle.dup_names.specs.Words.{Word}
use Rattle.dup_names.specs.Grammar.{is_digit}
use Rattle.dup_transcript.specs.Numbers.{leads, value_behind, number_of}

pub value_grows : (a : ℕ) (w : Word) → a ≤ value_behind a w
value_grows a [] = omega arith
value_grows a (b ∷ bs) = omega (arith, value_grows (10 * a + (b - 48)) bs)

refused : (a b : Bool) (n : ℕ) → (if a && b && false then Some n else None) ≡ None
refused true true n = refl
refused true false n = refl
refused false true n = refl
refused false false n = refl

-- a number past the last is none
pub too_large : (w : Word) → 2 ^ 64 ≤ value_behind 0 w → number_of w ≡ None
too_large w large =
    let e : nat_lt (value_behind 0 w) (2 ^ 64) ≡ false = grind (arith, nat_tests) in
    rw e (refused (leads w) (list_all is_digit w) (value_behind 0 w))

-- the value that was read so far is past the last with one digit more
pub overflows : (w : Word) (i v : ℕ) → i < length w → value_behind v (drop i w) ≡ value_behind 0 w → 2 ^ 64 ≤ 10 * v + (get_or w i 0 - 48) → number_of w ≡ None
overflows w i v below same large =
    let e : drop i w ≡ get_or w i 0 ∷ drop (i + 1) w = rw (drop-cons w i 0, add-one) in
    let same_more : value_behind (10 * v + (get_or w i 0 - 48)) (drop (i + 1) w) ≡ value_behind 0 w = sym (ap (value_behind v) e) ∙ same in
    too_large w (omega (arith, value_grows (10 * v + (get_or w i 0 - 48)) (drop (i + 1) w), same_more))

pub all_read : (w : Word) (i v : ℕ) → length w ≤ i → leads w ≡ true → v < 2 ^ 64 → list_all is_digit (drop i w) ≡ list_all is_digit w
    → value_behind v (drop i w) ≡ value_behind 0 w → Some v ≡ number_of w
all_read w i v past lead small digits same =
    let e : drop i w ≡ [] = drop_all i w past in
    let d : list_all is_digit w ≡ true = sym digits ∙ ap (list_all is_digit) e in
    let s : value_behind 0 w ≡ v = sym same ∙ ap (value_behind v) e in
    let l : nat_lt v (2 ^ 64) ≡ true = grind (arith, nat_tests) in
    sym (rw (lead, d, s, l))
