use Rattle.std.proofs.Common.{refl, ap, ◌∙◌, Err, rules}
use Rattle.dup_io.specs.Lines.{number_of, to_read}
use Rattle.dup_io.specs.declared.lines.LineFault.{LineFault}
use Rattle.dup_script.specs.Commands.{command_of}
use Rattle.dup_model.proofs.GoodSites.{good_jobs_fit}
use Rattle.dup_transcript.specs.Transcript.{RendersLines}
use Rattle.dup_main.proofs.CutScripts.{stops_in_script, stops_on_write}
use Rattle.dup_main.proofs.RenderSoFar.{begun, breaks_at_once, breaks_for_memory, breaks_on_line, breaks_on_write, breaks_pages, ended_by, more, reaches}
use Rattle.dup_main.proofs.SiteSoFar.{due_of}
use Rattle.dup_main.proofs.render_lines.render_lines.Goals as goal

pub lines-init : goal.lines-init
lines-init g c = record {
  same_reference = refl;
  no_fault = c.requires.no_fault;
  read_faults = refl;
  write_faults = refl;
  good = (c.args.site, c.requires.good, rw c.in_ok-content.ensures (record { frame = refl; bodies = refl }));
  answered = begun _ _ _ _ _ (record { shows = c.in_ok-content.ensures; counts = c.empty-size.ensures });
}

pub returns-in_err-line-clause-stopped : goal.returns-in_err-line-clause-stopped
returns-in_err-line-clause-stopped g c =
    stops_in_script _ c.in_err-line.field-0.0 _ _ _ _ _ (reaches _ _ _ _ _ _ _ _ c.lines.invariant.answered)
    (due_of _ _ (λ n e. (c.in_err-line.ensures.line_too_long c.lines.invariant.no_fault n e).1)
    (λ e. c.next.ensures.input_too_long c.lines.invariant.no_fault (c.in_err-line.was ∙ ap (λ (f : LineFault). Err f) e)))
    c.from_residual-in_err-line.ensures.1

pub put_pages-requires : goal.put_pages-requires
put_pages-requires g c = let good = c.lines.invariant.good in good_jobs_fit good.0 _ good.1 good.2

pub returns-in_default-clause-written : goal.returns-in_default-clause-written
returns-in_default-clause-written g c = ended_by _ _ _ _ _ _ _ _ _ _ c.lines.invariant.answered (search rules) c.put_pages.ensures.written

pub lines-preserved : goal.lines-preserved
lines-preserved g c = record {
  same_reference = search rules;
  no_fault = search rules;
  read_faults = search rules;
  write_faults = search rules;
  good = c.take.ensures.good c.lines.invariant.good;
  answered = more _ _ _ _ _ _ _ _ _ _ _ _ _ c.in-Some.line.bytes.items c.in_ok-text.text.items c.in_ok-command.command c.lines.invariant.answered
      (search rules) (search rules) c.in_ok-text.ensures.takes (search rules) (search rules) (search rules);
}

pub returns-in_err-put_all-clause-stopped : goal.returns-in_err-put_all-clause-stopped
returns-in_err-put_all-clause-stopped g c =
    stops_on_write _ (RendersLines command_of c.args.site (number_of c.args.lines.now)) _ (g.K.Sink.written c.args.out.now) _ c.from_residual-in_err-put_all.ensures.1

pub returns-in_err-content-clause-breaks : goal.returns-in_err-content-clause-breaks
returns-in_err-content-clause-breaks g c = breaks_at_once _ c.args.site _ _ _ _ c.from_residual.ensures.1

pub returns-in_err-line-clause-breaks : goal.returns-in_err-line-clause-breaks
returns-in_err-line-clause-breaks g c =
    breaks_on_line _ _ c.in_err-line.field-0.0 _ _ _ _ _ _ _ _ c.lines.invariant.answered
    (λ e. c.next.ensures.read_within c.lines.invariant.no_fault (c.in_err-line.was ∙ ap (λ (f : LineFault). Err f) e))
    c.from_residual-in_err-line.ensures.1

pub returns-in_default-clause-breaks : goal.returns-in_default-clause-breaks
returns-in_default-clause-breaks g c =
    breaks_pages _ _ _ _ _ _ _ _ _ _ _ c.lines.invariant.answered (search rules) c.put_pages.ensures.stopped c.put_pages.ensures.breaks

pub returns-in_err-command-clause-breaks : goal.returns-in_err-command-clause-breaks
returns-in_err-command-clause-breaks g c = breaks_for_memory _ _ _ _ _ _ _ _ _ _ c.lines.invariant.answered c.from_residual-in_err-command.ensures.1

pub returns-in_err-text-clause-breaks : goal.returns-in_err-text-clause-breaks
returns-in_err-text-clause-breaks g c = breaks_for_memory _ _ _ _ _ _ _ _ _ _ c.lines.invariant.answered c.from_residual-in_err-text.ensures.1

pub returns-in_err-put_all-clause-breaks : goal.returns-in_err-put_all-clause-breaks
returns-in_err-put_all-clause-breaks g c =
    breaks_on_write _ _ _ _ (to_read g.S.Source.left c.next.new.self) _ _ _ (g.K.Sink.written c.put_all.new.sink) _ _ c.in-Some.line.number _ _ c.in-Some.line.bytes.items c.in_ok-text.text.items c.in_ok-command.command c.lines.invariant.answered
    (search rules) (search rules) c.in_ok-text.ensures.takes (search rules) (search rules) c.from_residual-in_err-put_all.ensures.1
