use Rattle.std.proofs.Common.{◌≡◌, ◌≤◌, drop, length}
use Rattle.yard_model.specs.Setting.{names_of}
use Rattle.shard_entities.specs.Lodged.{given}
use Rattle.shard_entities.proofs.TickLaws.{of_names, of_shard}
use Rattle.shard_entities.proofs.shards.Shards.remind_each.Given as goal

abbrev pub invariant-loop : goal.invariant-loop
invariant-loop l = record {
  way : given l.out (of_names l.self.state (drop l.from (names_of l.self.state.set l.s))) ≡ given l.fn.out (of_shard l.self.state l.s);
  room : length (of_names l.self.state (drop l.from (names_of l.self.state.set l.s))) ≤ l.out.spare;
  far : l.counter ≤ l.from;
  within : l.from ≤ length (names_of l.self.state.set l.s);
}
