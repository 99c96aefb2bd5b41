-- The two parts of a line in memory, and what each call leaves as it was.
use Rattle.std.specs.Prelude.{◌≡◌, Some, refl}
use Rattle.std.proofs.Common.{◌∙◌, ap}
use Rattle.dup_io.specs.declared.memory.MemorySource.{MemorySource}
use Rattle.dup_io.specs.declared.memory.MemorySink.{MemorySink}
use Rattle.dup_io.specs.declared.memory_line.MemoryLine.{MemoryLine}
use Rattle.dup_io.specs.Memory.{source_left, source_faults, sink_written, sink_faults, SameSource}
use Rattle.dup_io.specs.Memory.{SameSource-refl, SameSource-trans, SameSink, SameSink-refl, SameSink-trans}

abbrev pub line_source : MemoryLine → MemorySource
line_source l = l.source

abbrev pub line_sink : MemoryLine → MemorySink
line_sink l = l.sink

-- a read leaves the sink, and what a read of the source leaves
pub record SameBesideSource (before now : MemoryLine) : Type 0 where
  pub sink : line_sink now ≡ line_sink before
  pub source : SameSource (line_source before) (line_source now)

pub SameBesideSource-refl : (x : MemoryLine) → SameBesideSource x x
SameBesideSource-refl x = record { sink = refl; source = SameSource-refl (line_source x) }

pub SameBesideSource-trans : (x y z : MemoryLine) → SameBesideSource x y → SameBesideSource y z
    → SameBesideSource x z
SameBesideSource-trans x y z a b =
    record {
      sink = b.sink ∙ a.sink;
      source = SameSource-trans (line_source x) (line_source y) (line_source z) a.source b.source;
    }

-- a write leaves the source, and what a write of the sink leaves
pub record SameBesideSink (before now : MemoryLine) : Type 0 where
  pub source : line_source now ≡ line_source before
  pub sink : SameSink (line_sink before) (line_sink now)

pub SameBesideSink-refl : (x : MemoryLine) → SameBesideSink x x
SameBesideSink-refl x = record { source = refl; sink = SameSink-refl (line_sink x) }

pub SameBesideSink-trans : (x y z : MemoryLine) → SameBesideSink x y → SameBesideSink y z → SameBesideSink x z
SameBesideSink-trans x y z a b =
    record {
      source = b.source ∙ a.source;
      sink = SameSink-trans (line_sink x) (line_sink y) (line_sink z) a.sink b.sink;
    }

pub sink_written_of : (x y : MemoryLine) → SameBesideSource x y
    → Some (sink_written (line_sink y)) ≡ Some (sink_written (line_sink x))
sink_written_of x y same = ap (λ (s : MemorySink). Some (sink_written s)) same.sink

pub sink_faults_of : (x y : MemoryLine) → SameBesideSource x y
    → sink_faults (line_sink y) ≡ sink_faults (line_sink x)
sink_faults_of x y same = ap sink_faults same.sink

pub source_left_of : (x y : MemoryLine) → SameBesideSink x y
    → Some (source_left (line_source y)) ≡ Some (source_left (line_source x))
source_left_of x y same = ap (λ (s : MemorySource). Some (source_left s)) same.source

pub source_faults_of : (x y : MemoryLine) → SameBesideSink x y
    → source_faults (line_source y) ≡ source_faults (line_source x)
source_faults_of x y same = ap source_faults same.source
