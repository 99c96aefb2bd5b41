-- Names and keys are ASCII, so they are text.
use Rattle.std.proofs.Common.{◌≡◌, ℕ, zero, suc, ◌<◌, [], ◌∷◌, refl, arith}
use Rattle.std.specs.Prelude.{true, nat_le, length, ◌&&◌}
use Rattle.std.specs.List.{list_all}
use Rattle.std.specs.Str.{IsUtf8, IsAscii}
use Rattle.std.proofs.lemmas.Bool.{and_parts, and_from, or_cases, or_left, leb-true, eqb-true}
use Rattle.std.proofs.lemmas.Str.{IsUtf8-from_ascii}
use Rattle.dup_names.specs.Grammar.{is_name, is_key, is_name_byte, is_key_byte, starts_lower}
use Rattle.dup_names.specs.Words.{Word}
use Rattle.dup_names.specs.declared.limits.TheConstants.{MAX_NAME_BYTES, MAX_KEY_BYTES}

ascii_byte : (b : ℕ) → is_key_byte b ≡ true → b < 128
ascii_byte b h = grind (arith, or_cases, leb-true, eqb-true, and_parts)

ascii_bytes : (w : Word) → list_all is_key_byte w ≡ true → IsAscii w
ascii_bytes [] h i = omega arith
ascii_bytes (b ∷ w) h zero = ascii_byte b (and_parts (is_key_byte b) (list_all is_key_byte w) h).0
ascii_bytes (b ∷ w) h (suc i) = ascii_bytes w (and_parts (is_key_byte b) (list_all is_key_byte w) h).1 i

key_bytes : (w : Word) → list_all is_name_byte w ≡ true → list_all is_key_byte w ≡ true
key_bytes [] h = refl
key_bytes (b ∷ w) h =
    let both = and_parts (is_name_byte b) (list_all is_name_byte w) h in
    and_from (is_key_byte b) (list_all is_key_byte w) (or_left (is_name_byte b) _ both.0) (key_bytes w both.1)

pub utf8_key : (w : Word) → is_key w ≡ true → IsUtf8 w
utf8_key w h =
    let first = and_parts (nat_le 1 (length w) && list_all is_key_byte w) (nat_le (length w) MAX_KEY_BYTES) h in
    let bytes = and_parts (nat_le 1 (length w)) (list_all is_key_byte w) first.0 in
    IsUtf8-from_ascii w (ascii_bytes w bytes.1)

pub utf8_name : (w : Word) → is_name w ≡ true → IsUtf8 w
utf8_name w h =
    let first = and_parts (starts_lower w && list_all is_name_byte w) (nat_le (length w) MAX_NAME_BYTES) h in
    let bytes = and_parts (starts_lower w) (list_all is_name_byte w) first.0 in
    IsUtf8-from_ascii w (ascii_bytes w (key_bytes w bytes.1))
