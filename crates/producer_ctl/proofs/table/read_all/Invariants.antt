use Rattle.std.proofs.Common.{◌≡◌, ◌<◌, ◌≤◌, ℕ, length, slice_index_or}
use Rattle.std.specs.Prelude.{vec_capacity}
use Rattle.place_set.specs.Places.{is_in}
use Rattle.yard_model.specs.Script.{setting}
use Rattle.producer_ctl.specs.Paired.{is_waiting, no_pair}
use Rattle.producer_ctl.proofs.BegunLaws.{AreRead}
use Rattle.producer_ctl.proofs.table.read_all.Given as goal

abbrev pub invariant-loop-at : goal.invariant-loop-at
invariant-loop-at l = record {
  there : length l.pairs.items ≡ l.at;
  room : l.names ≤ vec_capacity l.pairs;
  bound : l.waiting.bound ≡ l.names;
  within : l.at ≤ l.names;
  done : AreRead (setting l.store.script).names l.store.entries l.at l.pairs.items;
  marked : (i : ℕ) → i < l.at → is_in l.waiting i ≡ is_waiting (slice_index_or l.pairs.items i no_pair);
}
