use Rattle.std.proofs.Common.{◌≡◌, ◌-◌}
use Rattle.std.specs.Prelude.{None}
use Rattle.dup_names.specs.Lines.{max_input}
use Rattle.dup_io.specs.Lines.{to_read, reference_of, source_of, number_of, fault_of}
use Rattle.dup_main.proofs.SiteSoFar.{SoFar}
use Rattle.dup_main.proofs.site_part.read_site_text.Given as goal

abbrev pub invariant-lines : goal.invariant-lines
invariant-lines g l = record {
  same_reference : reference_of l.lines ≡ reference_of l.fn.lines;
  no_fault : fault_of l.lines ≡ None;
  faults : g.S.Source.faults (source_of l.lines) ≡ g.S.Source.faults (source_of l.fn.lines);
  read : SoFar (to_read g.S.Source.left l.fn.lines) (to_read g.S.Source.left l.lines) l.text.items (number_of l.fn.lines) (number_of l.lines);
}

abbrev pub decreases-lines : goal.decreases-lines
decreases-lines g l = max_input - (number_of l.lines)
