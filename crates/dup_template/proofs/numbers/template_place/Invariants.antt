use Rattle.std.proofs.Common.{◌≡◌, ◌+◌, drop}
use Rattle.dup_names.specs.Words.{place}
use Rattle.dup_template.specs.Frame.{heads_of}
use Rattle.dup_template.specs.Good.{template_names}
use Rattle.dup_template.proofs.numbers.template_place.Given as goal

abbrev pub invariant-loop-index : goal.invariant-loop-index
invariant-loop-index l =
    l.index + place l.name (template_names (heads_of (drop l.index l.templates))) ≡ place l.name (template_names (heads_of l.templates))
