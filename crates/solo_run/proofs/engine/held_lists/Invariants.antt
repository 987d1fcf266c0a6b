use Rattle.std.proofs.Common.{◌≡◌, ◌≤◌, ◌-◌, ◌++◌, length}
use Rattle.std.specs.Prelude.{map}
use Rattle.yard_model.specs.Words.{numbers}
use Rattle.solo_run.specs.Facts.{facts_of, held}
use Rattle.solo_run.proofs.engine.held_lists.Given as goal

abbrev pub invariant-loop : goal.invariant-loop
invariant-loop l = record {
  built : facts_of l.lists.items ++ map held (numbers l.counter (l.shards - l.counter)) ≡ map held (numbers 0 l.shards);
  long : length l.lists.items ≡ l.counter;
  within : l.counter ≤ l.shards;
}
