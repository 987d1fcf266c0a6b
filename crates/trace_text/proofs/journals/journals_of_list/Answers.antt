use Rattle.std.proofs.Common.{ap, ◌∙◌, arith, take}
use Rattle.std.specs.Prelude.{map}
use Rattle.std.proofs.lemmas.List.{take_all}
use Rattle.yard_model.specs.Entry.{shard_fact}
use Rattle.trace_text.specs.Places.{journals_of}
use Rattle.trace_text.proofs.JournalLaws.{facts_more}
use Rattle.trace_text.proofs.journals.journals_of_list.Goals as goal

pub loop-entry-preserved : goal.loop-entry-preserved
loop-entry-preserved c = record {
  journals = λ s. c.in_ok-add_entry.ensures.journals s (map (shard_fact s) (take c.loop-entry.entry-index c.args.list.now)) (c.loop-entry.invariant.journals s)
      ∙ ap (λ l. journals_of c.args.names.now l) (facts_more s c.args.list.now c.loop-entry.entry-index c.entry-item.result (omega arith) c.entry-item.is);
  length = c.in_ok-add_entry.ensures.length;
}

pub returns : goal.returns
returns c = λ s. c.loop-entry.invariant.journals s ∙ ap (λ l. journals_of c.args.names.now (map (shard_fact s) l)) (take_all c.loop-entry.entry-index c.args.list.now (omega arith))
