use Rattle.std.proofs.Common.{◌≡◌, ◌≤◌, ◌-◌, length}
use Rattle.std.specs.List.{flat_map}
use Rattle.yard_model.specs.Entities.{tick_entities}
use Rattle.yard_model.specs.Words.{numbers}
use Rattle.shard_entities.specs.Lodged.{given}
use Rattle.shard_entities.proofs.TickLaws.{of_shard}
use Rattle.shard_entities.proofs.shards.Shards.remind_all.Given as goal

abbrev pub invariant-loop-s : goal.invariant-loop-s
invariant-loop-s l = record {
  way : given l.out (flat_map (of_shard l.self.state) (numbers l.s (l.self.state.set.config.shards - l.s))) ≡ given l.fn.out (tick_entities l.self.state);
  room : length (flat_map (of_shard l.self.state) (numbers l.s (l.self.state.set.config.shards - l.s))) ≤ l.out.spare;
}
