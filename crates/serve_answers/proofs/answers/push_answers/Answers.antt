use Rattle.std.proofs.Common.{◌++◌, arith, map}
use Rattle.std.specs.List.{flat_map}
use Rattle.shard_store.specs.Stores.{lists_at}
use Rattle.serve_laws.specs.Served.{text_in}
use Rattle.serve_answers.specs.Told.{answer_value}
use Rattle.serve_answers.proofs.AnswerLaws.{first_recorded, text_ends, text_next}
use Rattle.serve_answers.proofs.answers.push_answers.Goals as goal

pub loop-answer-preserved : goal.loop-answer-preserved
loop-answer-preserved c = record {
  recorded = (first_recorded c.args.charter.now (lists_at c.args.charter.now.config c.args.stores.now.places) c.args.answers.now c.loop-answer.answer-index c.answer-item.result (omega arith) c.answer-item.is c.loop-answer.invariant.recorded).1;
  text = λ log same. text_next (text_in c.args.charter.now log) c.args.answers.now c.loop-answer.answer-index c.answer-item.result c.loop-answer.text.items c.push_answer.new.text.items
      (c.args.text.now.items ++ flat_map (text_in c.args.charter.now log) (map answer_value c.args.answers.now)) (omega arith) c.answer-item.is (c.loop-answer.invariant.text log same) (c.in_ok-push_answer.ensures log same);
}

pub returns : goal.returns
returns c log same = text_ends (text_in c.args.charter.now log) c.args.answers.now c.loop-answer.answer-index c.loop-answer.text.items
    (c.args.text.now.items ++ flat_map (text_in c.args.charter.now log) (map answer_value c.args.answers.now)) (omega arith) (c.loop-answer.invariant.text log same)
