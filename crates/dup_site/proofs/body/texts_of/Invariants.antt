use Rattle.std.proofs.Common.{◌≡◌, ◌++◌, length}
use Rattle.std.specs.List.{AllByRecursion}
use Rattle.dup_names.specs.Lines.{text_lines}
use Rattle.dup_site.specs.SaidBody.{is_text}
use Rattle.dup_site.proofs.body.texts_of.Given as goal

abbrev pub invariant-loop-rest : goal.invariant-loop-rest
invariant-loop-rest l = record {
  made : l.lines.items ++ text_lines l.rest ≡ text_lines l.text;
  texts : AllByRecursion is_text (text_lines l.rest);
}

abbrev pub decreases-loop-rest : goal.decreases-loop-rest
decreases-loop-rest l = length l.rest
