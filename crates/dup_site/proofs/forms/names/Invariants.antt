use Rattle.std.proofs.Common.{◌≡◌, take, drop}
use Rattle.std.specs.List.{list_all}
use Rattle.dup_names.specs.Grammar.{is_name}
use Rattle.dup_site.specs.SeenWords.{seen}
use Rattle.dup_site.proofs.forms.names.Given as goal

abbrev pub invariant-loop-word : goal.invariant-loop-word
invariant-loop-word l =
    (l.names.items ≡ seen (take l.word-index l.words)) × (list_all is_name (seen (drop l.word-index l.words)) ≡ list_all is_name (seen l.words))
