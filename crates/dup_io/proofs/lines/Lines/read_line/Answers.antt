use Rattle.std.proofs.Common.{refl, sym, subst, rules}
use Rattle.dup_io.specs.Readings.{IsPart}
use Rattle.dup_io.proofs.Parts.{stops}
use Rattle.dup_io.proofs.Turns.{begins}
use Rattle.dup_io.proofs.lines.Lines.read_line.Goals as goal

pub bytes-init : goal.bytes-init
bytes-init g c = record {
  same_reference = refl;
  reads = begins _ _ _ _ c.new-bytes.ensures.items (search rules);
  part = subst IsPart (sym c.new-bytes.ensures.items) refl;
  number = refl;
  taken = refl;
  short = search rules;
  within = search rules;
  fault = refl;
  beside = g.met.S.Source.stays _;
  faults = refl;
}

pub returns-in_err-byte-clause-read_within : goal.returns-in_err-byte-clause-read_within
returns-in_err-byte-clause-read_within g c = λ failed.
    stops _ _ _ _ _ _ c.bytes.bytes.items c.bytes.invariant.reads c.in_err-byte.ensures.kept c.in_err-byte.ensures.empty c.bytes.invariant.part (search rules) (search rules)
