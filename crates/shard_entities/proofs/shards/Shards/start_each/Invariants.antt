use Rattle.std.proofs.Common.{◌-◌, ◌≤◌, drop, length}
use Rattle.std.specs.Prelude.{◌*◌, filter}
use Rattle.std.specs.List.{flat_map}
use Rattle.yard_model.specs.Entities.{start_entity, entries}
use Rattle.yard_model.specs.SlotReads.{is_remembered}
use Rattle.yard_model.specs.Setting.{names_of}
use Rattle.shard_entities.specs.Settled.{IsSettled}
use Rattle.shard_entities.proofs.WayLaws.{IsOnTheWay}
use Rattle.shard_entities.proofs.WalkLaws.{IsSame}
use Rattle.shard_entities.proofs.shards.Shards.start_each.Given as goal

abbrev pub invariant-loop-k : goal.invariant-loop-k
invariant-loop-k l = record {
  way : IsOnTheWay l.self l.out (flat_map (λ e. start_entity e l.fn.self.state) (filter (λ e. is_remembered e (entries l.fn.self.state e)) (drop l.k (names_of l.fn.self.state.set l.s)))) l.fn.self l.fn.out (flat_map (λ e. start_entity e l.fn.self.state) (filter (λ e. is_remembered e (entries l.fn.self.state e)) (names_of l.fn.self.state.set l.s)));
  same : IsSame l.fn.self l.self;
  settled : IsSettled l.self;
  room : 2 * (length (names_of l.fn.self.state.set l.s) - l.k) ≤ l.out.spare;
}
