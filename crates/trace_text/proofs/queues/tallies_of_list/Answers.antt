use Rattle.std.proofs.Common.{◌≤◌, ap, ◌∙◌, arith, take}
use Rattle.std.specs.Prelude.{map, slice_index_or}
use Rattle.std.proofs.lemmas.List.{take_all}
use Rattle.yard_model.specs.Entry.{queue_fact}
use Rattle.trace_text.specs.Places.{tallies_of}
use Rattle.trace_text.proofs.TallyLaws.{queue_facts_more, count_within}
use Rattle.trace_text.proofs.queues.tallies_of_list.Goals as goal

pub count_entry-requires-clause-room : goal.count_entry-requires-clause-room
count_entry-requires-clause-room c = λ k d h.
    let few : (slice_index_or c.loop-entry.tallies.items k d).queued ≤ c.loop-entry.entry-index = count_within c.args.names.now 1 c.args.list.now c.loop-entry.entry-index c.loop-entry.tallies.items k d (c.loop-entry.invariant.tallies 1) (omega arith) h in
    omega arith

pub loop-entry-preserved : goal.loop-entry-preserved
loop-entry-preserved c = record {
  tallies = λ p. c.count_entry.ensures.tallies p (map (queue_fact p) (take c.loop-entry.entry-index c.args.list.now)) (c.loop-entry.invariant.tallies p)
      ∙ ap (λ l. tallies_of c.args.names.now l) (queue_facts_more p c.args.list.now c.loop-entry.entry-index c.entry-item.result (omega arith) c.entry-item.is);
  length = c.count_entry.ensures.length;
}

pub returns : goal.returns
returns c = λ p. c.loop-entry.invariant.tallies p ∙ ap (λ l. tallies_of c.args.names.now (map (queue_fact p) l)) (take_all c.loop-entry.entry-index c.args.list.now (omega arith))
