use Rattle.std.proofs.Common.{◌≡◌, ◌<◌, ◌^◌, drop}
use Rattle.std.specs.Prelude.{fold}
use Rattle.std.specs.List.{list_all}
use Rattle.script_text.specs.Words.{with_digit, value_of, is_digit}
use Rattle.script_text.proofs.words.value_of.Given as goal

abbrev pub invariant-loop-b : goal.invariant-loop-b
invariant-loop-b l = record {
  built : fold with_digit l.value (drop l.b-index l.word) ≡ value_of l.word;
  small : l.value < 10 ^ l.b-index;
  digits : list_all is_digit (drop l.b-index l.word) ≡ list_all is_digit l.word;
}
