use Rattle.std.proofs.Common.{◌≡◌, ◌-◌}
use Rattle.std.specs.Prelude.{None}
use Rattle.dup_names.specs.Lines.{max_input}
use Rattle.dup_io.specs.Lines.{to_read, reference_of, source_of, number_of, fault_of}
use Rattle.dup_model.specs.Journal.{usual_limits}
use Rattle.dup_hall.specs.Kept.{IsSound, limits_of, site_of, standing}
use Rattle.dup_main.proofs.ScriptSoFar.{Played}
use Rattle.dup_main.proofs.script.play_lines.Given as goal

abbrev pub invariant-lines : goal.invariant-lines
invariant-lines g l = record {
  same_reference : reference_of l.lines ≡ reference_of l.fn.lines;
  no_fault : fault_of l.lines ≡ None;
  read_faults : g.S.Source.faults (source_of l.lines) ≡ g.S.Source.faults (source_of l.fn.lines);
  write_faults : g.K.Sink.faults l.out ≡ g.K.Sink.faults l.fn.out;
  site : site_of l.hall ≡ site_of l.fn.hall;
  usual : limits_of l.hall ≡ usual_limits;
  sound : IsSound l.hall;
  played : Played (site_of l.fn.hall) (to_read g.S.Source.left l.fn.lines) (to_read g.S.Source.left l.lines) (g.K.Sink.written l.fn.out) (g.K.Sink.written l.out)
      (number_of l.fn.lines) (number_of l.lines) (standing l.hall);
}

abbrev pub decreases-lines : goal.decreases-lines
decreases-lines g l = max_input - (number_of l.lines)
