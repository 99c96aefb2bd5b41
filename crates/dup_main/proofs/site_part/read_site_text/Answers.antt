use Rattle.std.proofs.Common.{ap, ◌∙◌, Err, rules}
use Rattle.dup_io.specs.declared.lines.LineFault.{LineFault}
use Rattle.dup_main.proofs.SiteSoFar.{breaks_for_memory, breaks_in_site, due_of, ends_site, more, stops_in_site}
use Rattle.dup_main.proofs.site_part.read_site_text.Goals as goal

pub returns-in_err-line-clause-stopped : goal.returns-in_err-line-clause-stopped
returns-in_err-line-clause-stopped g c =
    stops_in_site _ c.in_err-line.field-0.0 _ _ _ _ _ c.lines.invariant.read
    (due_of _ _ (λ n e. (c.in_err-line.ensures.line_too_long c.lines.invariant.no_fault n e).1) (λ e. c.next.ensures.input_too_long c.lines.invariant.no_fault (c.in_err-line.was ∙ ap (λ (f : LineFault). Err f) e)))
    c.from_residual.ensures.1

pub returns-in_err-line-clause-breaks : goal.returns-in_err-line-clause-breaks
returns-in_err-line-clause-breaks g c =
    breaks_in_site _ c.in_err-line.field-0.0 _ _ _ _ _ _ c.lines.invariant.read
    (λ e. c.next.ensures.read_within c.lines.invariant.no_fault (c.in_err-line.was ∙ ap (λ (f : LineFault). Err f) e))
    c.from_residual.ensures.1

pub returns-in_err-put_line-clause-breaks : goal.returns-in_err-put_line-clause-breaks
returns-in_err-put_line-clause-breaks g c = breaks_for_memory _ _ _ c.from_residual-in_err-put_line.ensures.1

pub lines-preserved : goal.lines-preserved
lines-preserved g c = record {
  same_reference = search rules;
  no_fault = search rules;
  faults = search rules;
  read = more _ _ _ _ c.in-Some.line.bytes.items _ _ _ _ c.lines.invariant.read (search rules) (search rules) (search rules) (search rules);
}
