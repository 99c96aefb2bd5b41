-- Bytes as a JSON value.
use Rattle.std.proofs.Common.{◌≡◌, ℕ, List, refl}
use Rattle.std.specs.Prelude.{None}
use Rattle.std.specs.Str.{is_utf8, IsUtf8}
use Rattle.std.proofs.lemmas.Bool.{false_from_ne_true}
use Rattle.std.proofs.lemmas.Str.{IsUtf8-from_is_utf8, is_utf8-from_IsUtf8}
use Rattle.serde_json.specs.Read.{read}
use Rattle.dup_feed.specs.Feed.{json_of}

pub json_read : (bs : List ℕ) → IsUtf8 bs → json_of bs ≡ read bs
json_read bs h = rw (is_utf8-from_IsUtf8 bs h) refl

pub json_not_text : (bs : List ℕ) → (IsUtf8 bs → ⊥) → json_of bs ≡ None
json_not_text bs h = rw (false_from_ne_true (is_utf8 bs) (λ e. h (IsUtf8-from_is_utf8 bs e))) refl
