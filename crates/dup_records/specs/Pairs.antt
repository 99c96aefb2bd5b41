-- The index of a field: for each row that has the field, its text and the row's key, in their order.
use Rattle.std.specs.Prelude.{◌≡◌, ℕ, Bool, false, ◌&&◌, List, [], Option, Some, None, slice_get, if◌then◌else◌}
use Rattle.std.specs.List.{find, list_any}
use Rattle.std.specs.Option.{unwrap_or, option_and_then}
use Rattle.std.specs.Ordering.{ordering_then}
use Rattle.std.specs.declared.cmp.Ordering.{Ordering}
use Rattle.dup_names.specs.Order.{text_cmp}
use Rattle.dup_names.specs.Words.{Word, same}
use Rattle.dup_model.specs.Content.{Table}
use Rattle.dup_chunks.specs.Cut.{Rises}

-- a text, and the key of a row that has it
abbrev pub Pair : Type 0
Pair = Word × Word

-- by the text, and then by the key
abbrev pub pair_cmp : Pair → Pair → Ordering
pair_cmp a b = ordering_then (text_cmp a.0 b.0) (text_cmp a.1 b.1)

abbrev pub same_pair : Pair → Pair → Bool
same_pair a b = same a.0 b.0 && same a.1 b.1

-- whether a text that may be absent is this one
abbrev pub is_text : Option Word → Word → Bool
is_text None text = false
is_text (Some t) text = same t text

-- a field of the row with a key, where both are there
abbrev pub found_text : Table → ℕ → Word → Option Word
found_text rows field key = option_and_then (λ e. slice_get e.1 field) (find (λ e. same e.0 key) rows)

abbrev pub has_pair : List Pair → Pair → Bool
has_pair pairs q = list_any (λ r. same_pair r q) pairs

-- the pairs rise, and are those of the rows
pub record IsIndex (rows : Table) (field : ℕ) (pairs : List Pair) : Type 0 where
  pub rises : Rises (λ q. q) pair_cmp pairs
  pub each : (q : Pair) → has_pair pairs q ≡ is_text (found_text rows field q.1) q.0

-- the pairs of a field, none past the last
abbrev pub pairs_at : List (List Pair) → ℕ → List Pair
pairs_at indexes field = unwrap_or (slice_get indexes field) []

abbrev pub AreIndexes : Table → List (List Pair) → Type 0
AreIndexes rows indexes = (field : ℕ) → IsIndex rows field (pairs_at indexes field)

-- the pairs of a row's key are this text's in place of that one's
pub record IsMoved (old new : List Pair) (key : Word) (text : Option Word) : Type 0 where
  pub rises : Rises (λ q. q) pair_cmp new
  pub each : (q : Pair) → has_pair new q ≡ (if same q.1 key then is_text text q.0 else has_pair old q)

-- the pairs rise, and a key has this text
pub record HasText (pairs : List Pair) (key : Word) (text : Option Word) : Type 0 where
  pub rises : Rises (λ q. q) pair_cmp pairs
  pub each : (t : Word) → has_pair pairs (t, key) ≡ is_text text t
