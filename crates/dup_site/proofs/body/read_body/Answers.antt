use Rattle.std.proofs.Common.{rules, ◌≤◌, List, length, map, ap, sym, subst, ◌∙◌}
use Rattle.std.specs.Prelude.{option_and_then}
use Rattle.std.proofs.lemmas.List.{drop_all, drop_more}
use Rattle.dup_names.specs.Words.{Word}
use Rattle.dup_names.specs.declared.limits.TheConstants.{MAX_TEXT_BYTES}
use Rattle.dup_site.specs.Drafted.{drafted}
use Rattle.dup_site.specs.SaidBody.{after_lines, body_line, statements_of}
use Rattle.dup_site.proofs.PlainLengths.{longest_more, read_fits}
use Rattle.dup_site.proofs.body.read_body.Goals as goal

pub loop-line-preserved : goal.loop-line-preserved
loop-line-preserved c = record {
  said = search (rules, drop_more);
  short = longest_more c.args.lines.now c.loop-line.line-index _ c.line-item.result c.loop-line-test.true
      (subst (λ (w : Word). length w ≤ MAX_TEXT_BYTES) c.line-item.is c.bytes.ensures.fits) c.loop-line.invariant.short;
}

pub returns-clause-fits : goal.returns-clause-fits
returns-clause-fits c =
    read_fits c.args.lines.now c.in_ok-read.read c.loop-line.line-index _
    (c.in_ok-read.ensures
    ∙ ap (option_and_then statements_of)
    (ap (λ (ls : List Word). after_lines (drafted c.loop-line.reading) (map body_line ls)) (sym (drop_all c.loop-line.line-index c.args.lines.now c.loop-line-test.false)) ∙ c.loop-line.invariant.said))
    c.loop-line-test.false c.loop-line.invariant.short
