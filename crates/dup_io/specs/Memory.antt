-- What the sources and sinks in memory hold, and which of their calls fail.
use Rattle.std.specs.Prelude.{◌≡◌, ◌+◌, ◌-◌, ◌^◌, ◌||◌, ℕ, Bool, List, drop, length, min, nat_eq}
use Rattle.std.specs.Prelude.{nat_le, refl}
use Rattle.std.specs.List.{list_any}
use Rattle.std.proofs.Common.{◌∙◌}
use Rattle.dup_io.specs.declared.memory.MemorySource.{MemorySource}
use Rattle.dup_io.specs.declared.memory.MemorySink.{MemorySink}

-- the bytes that are left
abbrev pub source_left : MemorySource → List ℕ
source_left s = drop s.at s.bytes.items

-- how many bytes a read gives at most
abbrev pub source_piece : MemorySource → ℕ
source_piece s = s.piece

-- the numbers of the reads that fail
abbrev pub source_fails : MemorySource → List ℕ
source_fails s = s.fails.items

-- how many reads there were
abbrev pub source_calls : MemorySource → ℕ
source_calls s = s.calls

-- how many of them failed
abbrev pub source_faults : MemorySource → ℕ
source_faults s = s.faults

-- the number of the call after so many
abbrev pub next_call : ℕ → ℕ
next_call calls = min (calls + 1) (2 ^ 64 - 1)

-- whether the next read fails
abbrev pub read_fails : MemorySource → Bool
read_fails s = list_any (λ n. nat_eq n (next_call (source_calls s))) (source_fails s)

-- the bytes that were written
abbrev pub sink_written : MemorySink → List ℕ
sink_written s = s.bytes.items

-- how many bytes it takes in all
abbrev pub sink_room : MemorySink → ℕ
sink_room s = s.room

-- how many bytes a write takes at most
abbrev pub sink_piece : MemorySink → ℕ
sink_piece s = s.piece

-- the numbers of the writes that fail
abbrev pub sink_fails : MemorySink → List ℕ
sink_fails s = s.fails.items

-- how many writes there were
abbrev pub sink_calls : MemorySink → ℕ
sink_calls s = s.calls

-- how many of them failed
abbrev pub sink_faults : MemorySink → ℕ
sink_faults s = s.faults

-- whether the next write fails: the room is full, or it is listed
abbrev pub write_fails : MemorySink → Bool
write_fails s =
    nat_le (sink_room s) (length (sink_written s))
    || list_any (λ n. nat_eq n (next_call (sink_calls s))) (sink_fails s)

-- a read leaves the size of a piece and the list of the reads that fail
pub record SameSource (before now : MemorySource) : Type 0 where
  pub piece : source_piece now ≡ source_piece before
  pub fails : source_fails now ≡ source_fails before

pub SameSource-refl : (x : MemorySource) → SameSource x x
SameSource-refl x = record { piece = refl; fails = refl }

pub SameSource-trans : (x y z : MemorySource) → SameSource x y → SameSource y z → SameSource x z
SameSource-trans x y z a b = record { piece = b.piece ∙ a.piece; fails = b.fails ∙ a.fails }

-- a write leaves the room, the size of a piece and the list of the writes that fail
pub record SameSink (before now : MemorySink) : Type 0 where
  pub room : sink_room now ≡ sink_room before
  pub piece : sink_piece now ≡ sink_piece before
  pub fails : sink_fails now ≡ sink_fails before

pub SameSink-refl : (x : MemorySink) → SameSink x x
SameSink-refl x = record { room = refl; piece = refl; fails = refl }

pub SameSink-trans : (x y z : MemorySink) → SameSink x y → SameSink y z → SameSink x z
SameSink-trans x y z a b =
    record { room = b.room ∙ a.room; piece = b.piece ∙ a.piece; fails = b.fails ∙ a.fails }
