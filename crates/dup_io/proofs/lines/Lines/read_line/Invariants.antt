use Rattle.std.proofs.Common.{◌≡◌, ◌+◌, ◌-◌, ◌≤◌, vec_len}
use Rattle.std.specs.Option.{option_map}
use Rattle.dup_io.specs.Lines.{ahead, to_read}
use Rattle.dup_io.specs.Readings.{IsPart}
use Rattle.dup_names.specs.Lines.{max_line, max_input}
use Rattle.dup_io.proofs.Scan.{scan}
use Rattle.dup_io.proofs.Turns.{Same}
use Rattle.dup_io.proofs.lines.Lines.read_line.Given as goal

abbrev pub invariant-bytes : goal.invariant-bytes
invariant-bytes g l = record {
  same_reference : l.self.source.ghost_name ≡ l.fn.self.source.ghost_name;
  reads : Same (to_read g.S.Source.left l.fn.self) (option_map (scan l.fn.self.number l.fn.self.taken l.bytes.items) (ahead g.S.Source.left l.self));
  part : IsPart l.bytes.items;
  number : l.self.number ≡ l.fn.self.number;
  taken : l.self.taken ≡ l.fn.self.taken;
  short : vec_len l.bytes ≤ max_line;
  fault : l.self.fault ≡ l.fn.self.fault;
  within : l.self.taken + vec_len l.bytes ≤ max_input;
  beside : g.S.Source.beside l.fn.self.source.now l.self.source.now;
  faults : g.S.Source.faults l.self.source.now ≡ g.S.Source.faults l.fn.self.source.now;
}

abbrev pub decreases-bytes : goal.decreases-bytes
decreases-bytes g l = max_line - vec_len l.bytes
