-- A text that is UTF-8 stays so where spaces or a first ASCII byte are cut off.
use Rattle.std.proofs.Common.{◌≡◌, ℕ, ◌<◌, ◌-◌, List, [], ◌∷◌, length, take, drop, refl, sym, arith}
use Rattle.std.proofs.lemmas.List.{take_rest}
use Rattle.std.specs.Prelude.{Bool, true, false, if◌then◌else◌, slice_index}
use Rattle.std.specs.Str.{is_utf8, IsUtf8}
use Rattle.std.proofs.lemmas.Bool.{false_from_ne_true, eqb-true}
use Rattle.std.proofs.lemmas.Str.{IsUtf8-from_is_utf8, is_utf8-from_IsUtf8, IsUtf8-drop, IsCharBoundary-after_ascii}
use Rattle.dup_names.specs.LineWords.{trimmed, is_space}

pub utf8_true : (bs : List ℕ) → IsUtf8 bs → true ≡ is_utf8 bs
utf8_true bs h = sym (is_utf8-from_IsUtf8 bs h)

pub utf8_false : (bs : List ℕ) → (IsUtf8 bs → ⊥) → false ≡ is_utf8 bs
utf8_false bs h = sym (false_from_ne_true (is_utf8 bs) (λ e. h (IsUtf8-from_is_utf8 bs e)))

utf8_tail : (b : ℕ) (bs : List ℕ) → b < 128 → IsUtf8 (b ∷ bs) → IsUtf8 bs
utf8_tail b bs small u = IsUtf8-drop (b ∷ bs) 1 u (IsCharBoundary-after_ascii (b ∷ bs) 0 u (omega arith) small)

pub utf8_behind : (bs : List ℕ) → 0 < length bs → slice_index bs 0 < 128 → IsUtf8 bs → IsUtf8 (take (length bs - 1) (drop 1 bs))
utf8_behind bs some small u = rw (take_rest bs 1) (IsUtf8-drop bs 1 u (IsCharBoundary-after_ascii bs 0 u some small))

pub false_since : (b : Bool) (P : Type 0) → (b ≡ true → P) → (P → ⊥) → b ≡ false
false_since b P h never = false_from_ne_true b (λ e. never (h e))

trimmed-utf8-by : (b : ℕ) (bs : List ℕ) (e : Bool) → is_space b ≡ e → (IsUtf8 bs → IsUtf8 (trimmed bs)) → IsUtf8 (b ∷ bs) → IsUtf8 (if e then trimmed bs else b ∷ bs)
trimmed-utf8-by b bs true is more u = more (utf8_tail b bs (omega (arith, eqb-true b 32 is)) u)
trimmed-utf8-by b bs false is more u = u

pub utf8_trimmed : (bs : List ℕ) → IsUtf8 bs → IsUtf8 (trimmed bs)
utf8_trimmed [] u = u
utf8_trimmed (b ∷ bs) u = trimmed-utf8-by b bs (is_space b) refl (utf8_trimmed bs) u
