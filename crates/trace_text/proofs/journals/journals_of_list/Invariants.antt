use Rattle.std.proofs.Common.{◌≡◌, ℕ, length, take}
use Rattle.std.specs.Prelude.{map}
use Rattle.yard_model.specs.Entry.{shard_fact}
use Rattle.trace_text.specs.Places.{journals_of, lent_all}
use Rattle.trace_text.proofs.journals.journals_of_list.Given as goal

abbrev pub invariant-loop-entry : goal.invariant-loop-entry
invariant-loop-entry l = record {
  journals : (s : ℕ) → map lent_all l.journals.items ≡ journals_of l.names (map (shard_fact s) (take l.entry-index l.list));
  length : length l.journals.items ≡ length l.names;
}
