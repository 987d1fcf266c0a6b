use Rattle.std.proofs.Common.{◌≡◌, ℕ, length, take}
use Rattle.std.specs.Prelude.{map}
use Rattle.yard_model.specs.Entry.{queue_fact}
use Rattle.trace_text.specs.Places.{tallies_of}
use Rattle.trace_text.proofs.queues.tallies_of_list.Given as goal

abbrev pub invariant-loop-entry : goal.invariant-loop-entry
invariant-loop-entry l = record {
  tallies : (p : ℕ) → l.tallies.items ≡ tallies_of l.names (map (queue_fact p) (take l.entry-index l.list));
  length : length l.tallies.items ≡ length l.names;
}
