use Rattle.std.proofs.Common.{◌≡◌, ◌++◌, drop, map, List}
use Rattle.std.specs.List.{flat_map}
use Rattle.yard_model.specs.declared.fact.Fact.{Fact}
use Rattle.shard_store.specs.Stores.{lists_at}
use Rattle.apply_laws.specs.Applied.{lists_in}
use Rattle.serve_laws.specs.Served.{text_in}
use Rattle.serve_answers.specs.Told.{AreRecorded, ReadsAs, answer_value}
use Rattle.serve_answers.proofs.answers.push_answers.Given as goal

-- those that are left have their records; with their texts the text is whole
abbrev pub invariant-loop-answer : goal.invariant-loop-answer
invariant-loop-answer l = record {
  recorded : AreRecorded l.charter (lists_at l.charter.config l.stores.places) (map answer_value (drop l.answer-index l.answers));
  text : (log : List (List Fact)) → ReadsAs l.charter (lists_at l.charter.config l.stores.places) (lists_in l.charter log)
      → l.text.items ++ flat_map (text_in l.charter log) (map answer_value (drop l.answer-index l.answers)) ≡ l.fn.text.items ++ flat_map (text_in l.charter log) (map answer_value l.answers);
}
