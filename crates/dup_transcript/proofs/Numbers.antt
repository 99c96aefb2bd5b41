-- The numbers that words write.
use Rattle.std.proofs.Common.{◌≡◌, ℕ, zero, suc, ◌/◌, ◌%◌, ◌^◌, ◌<◌, Bool, true, false, ◌&&◌, [], ◌∷◌, Some, None, length, get_or, refl, sym, ap, ◌∙◌, arith, rules, nat_lt, if◌then◌else◌, ◌==◌}
use Rattle.std.specs.List.{list_all}
use Rattle.std.specs.Fmt.{decimal, digits, digits_onto, digit_glyph}
use Rattle.std.proofs.lemmas.Bool.{true≢false}
use Rattle.std.proofs.lemmas.Bool.Decides.{nat_tests}
use Rattle.std.proofs.lemmas.Fmt.{decimal_digit, decimal_nonempty, first_decimal, digits_value-decimal, decimal-digits_value}
use Rattle.std.proofs.lemmas.Str.Parse.{IsNumeralModel, numerals_by_fold}
use Rattle.dup_names.specs.Words.{Word}
use Rattle.dup_names.specs.Grammar.{is_digit}
use Rattle.dup_transcript.specs.Numbers.{leads, value_behind, number_of, NumbersAreDecimal}

-- std's lemmas on decimal text, for these two words
own : IsNumeralModel (λ ds. list_all is_digit ds ≡ true) (value_behind 0)
own = numerals_by_fold _ (search rules) value_behind (search rules)

glyph_is_digit : (d : ℕ) → d < 10 → is_digit (digit_glyph false d) ≡ true
glyph_is_digit d below = grind (arith, nat_tests)

either_digits : (b : Bool) (u v : Word) → list_all is_digit u ≡ true → list_all is_digit v ≡ true → list_all is_digit (if b then u else v) ≡ true
either_digits true u v p q = p
either_digits false u v p q = q

onto_digits : (k n : ℕ) (acc : Word) → list_all is_digit acc ≡ true → list_all is_digit (digits_onto k 10 false n acc) ≡ true
onto_digits zero n acc h = h
onto_digits (suc k) n acc h =
    let more : list_all is_digit (digit_glyph false (n % 10) ∷ acc) ≡ true = rw (glyph_is_digit (n % 10) (omega arith), h) in
    either_digits (n / 10 == 0) _ _ more (onto_digits k (n / 10) (digit_glyph false (n % 10) ∷ acc) more)

pub decimal_digits : (n : ℕ) → list_all is_digit (decimal n) ≡ true
unfolding digits
decimal_digits n = onto_digits 64 n [] refl

leads_from : (w : Word) → 0 < length w → 48 < get_or w 0 0 → leads w ≡ true
leads_from [] some first = absurd (omega arith)
leads_from (b ∷ []) some first = refl
leads_from (b ∷ c ∷ cs) some first = grind (arith, nat_tests)

some_leads : (w : Word) → leads w ≡ true → 0 < length w
some_leads [] h = absurd (true≢false (sym h))
some_leads (b ∷ w) h = omega arith

alone_leads : (w : Word) → leads w ≡ true → get_or w 0 0 ≡ 48 → length w ≡ 1
alone_leads [] h zero_first = absurd (true≢false (sym h))
alone_leads (b ∷ []) h zero_first = refl
alone_leads (b ∷ c ∷ cs) h zero_first = absurd (grind (arith, nat_tests))

decimal_leads : (n : ℕ) → n < 2 ^ 64 → leads (decimal n) ≡ true
decimal_leads zero small = ap leads (decimal_digit 0 (omega arith))
decimal_leads (suc n) small = leads_from (decimal (suc n)) (decimal_nonempty (suc n) small) (first_decimal (suc n) (omega arith) small)

pub read_decimal : (n : ℕ) → n < 2 ^ 64 → number_of (decimal n) ≡ Some n
read_decimal n small =
    let below : nat_lt n (2 ^ 64) ≡ true = grind (arith, nat_tests) in
    rw (decimal_leads n small, decimal_digits n, digits_value-decimal own n small, below)

-- what the three tests of a number tell
told : (a b c : Bool) (v n : ℕ) → (if a && b && c then Some v else None) ≡ Some n → (a ≡ true) × (b ≡ true) × (c ≡ true) × (v ≡ n)
told true true true v n h = (refl, refl, refl, cc)
told true true false v n h = cc
told true false c v n h = cc
told false b c v n h = cc

is_decimal : (w : Word) (n : ℕ) → number_of w ≡ Some n → (w ≡ decimal n) × (n < 2 ^ 64)
is_decimal w n h =
    let t = told (leads w) (list_all is_digit w) (nat_lt (value_behind 0 w) (2 ^ 64)) (value_behind 0 w) n h in
    let tested : nat_lt (value_behind 0 w) (2 ^ 64) ≡ true = t.2 in
    let small : value_behind 0 w < 2 ^ 64 = grind (arith, nat_tests) in
    (sym (decimal-digits_value own w t.1 (some_leads w t.0) (alone_leads w t.0) small) ∙ ap decimal t.3, omega (arith, t.3))

pub numbers_are_decimal : NumbersAreDecimal
numbers_are_decimal w n = (is_decimal w n, λ h. ap number_of h.0 ∙ read_decimal n h.1)
