use Rattle.std.proofs.Common.{◌≡◌, ◌≤◌, drop, take, map}
use Rattle.std.specs.Prelude.{None, codes}
use Rattle.dup_names.specs.declared.limits.TheConstants.{MAX_TEXT_BYTES}
use Rattle.dup_template.specs.BodyLines.{longest_of}
use Rattle.dup_site.specs.Drafted.{drafted}
use Rattle.dup_site.specs.SaidBody.{after_lines, begun, body_line}
use Rattle.dup_site.specs.declared.site_line.Head.TheVariants.{Template}
use Rattle.dup_site.proofs.body.read_body.Given as goal

abbrev pub invariant-loop-line : goal.invariant-loop-line
invariant-loop-line l = record {
  said : after_lines (drafted l.reading) (map body_line (drop l.line-index l.lines))
      ≡ after_lines (begun (Template (codes "t") None)) (map body_line l.lines);
  short : longest_of (take l.line-index l.lines) ≤ MAX_TEXT_BYTES;
}
