use Rattle.std.proofs.Common.{ap, map, arith}
use Rattle.dup_site.specs.Drafted.{keeping_of}
use Rattle.dup_site.specs.Spelling.{line_of, text_says}
use Rattle.dup_names.specs.Lines.{text_lines}
use Rattle.dup_site.proofs.KeepsSaid.{next, bad, ends, no_lines, stands, stands_not}
use Rattle.dup_site.proofs.reading.read_parts.Goals as goal

pub returns-then-not-stands : goal.returns-then-not-stands
returns-then-not-stands c =
    bad (text_says c.args.text.now) c.loop-rest.number (keeping_of c.loop-rest.keeping) (line_of c.cut_line.result.0.now) (map line_of (text_lines c.cut_line.result.1.now)) _
    (ap (map line_of) c.cut_line.ensures.lines) c.loop-rest.invariant.0 (stands_not c.in_ok-stands.stands _ _ c.in_ok-stands.ensures.step c.if-not-stands.true)

pub loop-rest-preserved : goal.loop-rest-preserved
loop-rest-preserved c = (
  next (text_says c.args.text.now) c.loop-rest.number (keeping_of c.loop-rest.keeping) (keeping_of c.take_line.new.keeping) (line_of c.cut_line.result.0.now) (map line_of (text_lines c.cut_line.result.1.now)) _
      (ap (map line_of) c.cut_line.ensures.lines) c.loop-rest.invariant.0 (stands c.in_ok-stands.stands _ _ c.in_ok-stands.ensures.step c.if-not-stands.false),
  omega (arith, c.cut_line.ensures.shorter),
  omega (arith, c.in_ok-stands.ensures.passed),
)

pub returns : goal.returns
returns c =
    ends (text_says c.args.text.now) c.loop-rest.number (keeping_of c.loop-rest.keeping) (map line_of (text_lines c.loop-rest.rest.now))
    (no_lines c.loop-rest.rest.now c.loop-rest-test.ensures) c.loop-rest.invariant.0 c.finished.result c.finished.ensures
