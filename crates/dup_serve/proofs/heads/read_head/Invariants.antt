use Rattle.std.proofs.Common.{◌≡◌, ◌-◌, length}
use Rattle.std.specs.Io.KnownBytes.{Consumes}
use Rattle.dup_serve.specs.Heads.{IsNoLonger}
use Rattle.dup_serve.proofs.heads.read_head.Given as goal

abbrev pub invariant-pieces : goal.invariant-pieces
invariant-pieces g l = record {
  taken : Consumes (g.S.Source.left l.fn.line) (g.S.Source.left l.line) l.bytes.items;
  faults : g.S.Source.faults l.line ≡ g.S.Source.faults l.fn.line;
  beside : g.S.Source.beside l.fn.line l.line;
  no_longer : IsNoLonger l.bytes.items;
}

abbrev pub decreases-pieces : goal.decreases-pieces
decreases-pieces g l = 8192 - length l.bytes.items
