use Rattle.std.proofs.Common.{◌≡◌, ◌<◌, ℕ, length}
use Rattle.yard_model.specs.Words.{at}
use Rattle.producer_ctl.specs.Producing.{HasPlaces}
use Rattle.producer_ctl.proofs.producers.new_tables.Given as goal

abbrev pub invariant-loop : goal.invariant-loop
invariant-loop l = record {
  there : length l.tables.items ≡ l.counter;
  each : (i : ℕ) → i < l.counter → HasPlaces l.names (at l.tables.items i);
}
