use Rattle.std.proofs.Common.{◌≡◌, ◌<◌, ◌^◌, drop}
use Rattle.std.specs.List.{list_all}
use Rattle.dup_names.specs.Grammar.{is_digit}
use Rattle.dup_transcript.specs.Numbers.{value_behind}
use Rattle.dup_script.proofs.number.read_number.Given as goal

abbrev pub invariant-loop-byte : goal.invariant-loop-byte
invariant-loop-byte l = record {
  digits : list_all is_digit (drop l.byte-index l.word) ≡ list_all is_digit l.word;
  small : l.value < 2 ^ 64;
  value : value_behind l.value (drop l.byte-index l.word) ≡ value_behind 0 l.word;
}
