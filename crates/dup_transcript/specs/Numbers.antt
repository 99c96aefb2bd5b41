-- Decimal numbers, as words of a line. The law above: `numbers_law`.
use Rattle.std.specs.Prelude.{◌≡◌, ◌↔◌, ◌<◌, ℕ, ◌+◌, ◌-◌, ◌*◌, ◌^◌, Bool, true, false, not, ◌&&◌, [], ◌∷◌, Option, Some, None, nat_eq, nat_lt, if◌then◌else◌}
use Rattle.std.specs.Fmt.{decimal}
use Rattle.std.specs.List.{list_all}
use Rattle.dup_names.specs.Grammar.{is_digit}
use Rattle.dup_names.specs.Words.{Word}

-- no zero in front, but `0` itself
abbrev pub leads : Word → Bool
leads [] = false
leads (b ∷ []) = true
leads (b ∷ c ∷ cs) = not (nat_eq b 48)

-- the number that digits write, behind those of a
abbrev pub value_behind : ℕ → Word → ℕ
value_behind a [] = a
value_behind a (b ∷ bs) = value_behind (10 * a + (b - 48)) bs

-- the number that a word writes, up to 2^64 - 1
abbrev pub number_of : Word → Option ℕ
number_of w = if leads w && list_all is_digit w
    && nat_lt (value_behind 0 w) (2 ^ 64) then Some (value_behind 0 w) else None

-- a word writes a number exactly where it is the number's decimal text, up to 2^64 - 1
abbrev pub NumbersAreDecimal : Type 0
NumbersAreDecimal = (w : Word) (n : ℕ) → (number_of w ≡ Some n) ↔ ((w ≡ decimal n) × (n < 2 ^ 64))
