use Rattle.std.proofs.Common.{refl, ap, ◌∙◌, Err, rules}
use Rattle.dup_io.specs.Lines.{number_of, to_read}
use Rattle.dup_io.specs.declared.lines.LineFault.{LineFault}
use Rattle.dup_hall.specs.Kept.{site_of}
use Rattle.dup_script.specs.Commands.{command_of}
use Rattle.dup_transcript.specs.Turns.{Writes, first_standing}
use Rattle.dup_main.proofs.CutScripts.{stops_in_script, stops_on_write}
use Rattle.dup_main.proofs.ScriptSoFar.{begun, breaks_for_memory, breaks_on_line, breaks_on_write, ended, more, reaches}
use Rattle.dup_main.proofs.SiteSoFar.{due_of}
use Rattle.dup_main.proofs.Turning.{turns_of}
use Rattle.dup_main.proofs.script.play_lines.Goals as goal

pub lines-init : goal.lines-init
lines-init g c = record {
  same_reference = refl;
  no_fault = c.requires.no_fault;
  read_faults = refl;
  write_faults = refl;
  site = refl;
  usual = c.requires.usual;
  sound = c.requires.sound;
  played = begun _ _ _ _ _ c.requires.first;
}

pub returns-in_err-line-clause-stopped : goal.returns-in_err-line-clause-stopped
returns-in_err-line-clause-stopped g c =
    stops_in_script _ c.in_err-line.field-0.0 _ _ _ _ _ (reaches _ _ _ _ _ _ _ _ c.lines.invariant.played)
    (due_of _ _ (λ n e. (c.in_err-line.ensures.line_too_long c.lines.invariant.no_fault n e).1)
    (λ e. c.next.ensures.input_too_long c.lines.invariant.no_fault (c.in_err-line.was ∙ ap (λ (f : LineFault). Err f) e)))
    c.from_residual.ensures.1

pub returns-in_err-line-clause-breaks : goal.returns-in_err-line-clause-breaks
returns-in_err-line-clause-breaks g c =
    breaks_on_line _ _ c.in_err-line.field-0.0 _ _ _ _ _ _ _ _ c.lines.invariant.played
    (λ e. c.next.ensures.read_within c.lines.invariant.no_fault (c.in_err-line.was ∙ ap (λ (f : LineFault). Err f) e))
    c.from_residual.ensures.1

pub returns-in_default-clause-written : goal.returns-in_default-clause-written
returns-in_default-clause-written g c = ended _ _ _ _ _ _ _ _ c.lines.invariant.played (search rules)

pub returns-in_err-command-clause-breaks : goal.returns-in_err-command-clause-breaks
returns-in_err-command-clause-breaks g c = breaks_for_memory _ _ _ _ _ _ _ _ _ _ c.lines.invariant.played c.from_residual-in_err-command.ensures.1

pub returns-in_err-act-clause-breaks : goal.returns-in_err-act-clause-breaks
returns-in_err-act-clause-breaks g c = breaks_for_memory _ _ _ _ _ _ _ _ _ _ c.lines.invariant.played c.from_residual-in_err-act.ensures.1

pub lines-preserved : goal.lines-preserved
lines-preserved g c = record {
  same_reference = search rules;
  no_fault = search rules;
  read_faults = search rules;
  write_faults = search rules;
  site = search rules;
  usual = search rules;
  sound = search rules;
  played = more _ _ _ _ _ _ _ _ _ _ _ _ _ c.in-Some.line.bytes.items c.act.new.out.items c.in_ok-command.command c.lines.invariant.played
      (search rules) (search rules)
      (turns_of c.lines.hall c.act.new.self c.in-Some.line.number c.in_ok-command.command _ _ _ c.new-text.ensures.items c.in_ok-act.ensures.answers c.lines.invariant.site c.lines.invariant.usual)
      (search rules) (search rules) (search rules);
}

pub returns-in_err-put_all-clause-stopped : goal.returns-in_err-put_all-clause-stopped
returns-in_err-put_all-clause-stopped g c = stops_on_write _ (Writes command_of (site_of c.args.hall.now) first_standing (number_of c.args.lines.now)) _ (g.K.Sink.written c.args.out.now) _ c.from_residual-in_err-put_all.ensures.1

pub returns-in_err-put_all-clause-breaks : goal.returns-in_err-put_all-clause-breaks
returns-in_err-put_all-clause-breaks g c =
    breaks_on_write _ _ _ _ (to_read g.S.Source.left c.next.new.self) _ _ _ (g.K.Sink.written c.put_all.new.sink) _ _ c.in-Some.line.number _ _ c.in-Some.line.bytes.items c.act.new.out.items c.in_ok-command.command c.lines.invariant.played
    (search rules) (search rules)
    (turns_of c.lines.hall c.act.new.self c.in-Some.line.number c.in_ok-command.command _ _ _ c.new-text.ensures.items c.in_ok-act.ensures.answers c.lines.invariant.site c.lines.invariant.usual)
    (search rules) (search rules) c.from_residual-in_err-put_all.ensures.1
