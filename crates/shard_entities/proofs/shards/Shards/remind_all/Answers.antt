use Rattle.std.proofs.Common.{◌+◌, ◌-◌}
use Rattle.std.specs.List.{flat_map}
use Rattle.yard_model.specs.Entities.{tick_entities}
use Rattle.yard_model.specs.Words.{numbers}
use Rattle.shard_entities.proofs.LoopLaws.{tick_cut, room_goes}
use Rattle.shard_entities.proofs.TickLaws.{of_shard}
use Rattle.shard_entities.proofs.WayLaws.{out_goes}
use Rattle.shard_entities.proofs.shards.Shards.remind_all.Goals as goal

pub loop-s-preserved : goal.loop-s-preserved
loop-s-preserved c = record {
  way = out_goes c.loop-s.out c.remind_shard.new.out c.args.out.now (of_shard c.args.self.now.state c.shard_at.result) (flat_map (of_shard c.args.self.now.state) (numbers (c.loop-s.s + 1) (c.args.self.now.state.set.config.shards - (c.loop-s.s + 1)))) (flat_map (of_shard c.args.self.now.state) (numbers c.loop-s.s (c.args.self.now.state.set.config.shards - c.loop-s.s))) (tick_entities c.args.self.now.state) (tick_cut c.knows.ensures c.loop-s-test.true c.shards-s-end.ensures.value c.shard_at.ensures) c.remind_shard.ensures c.loop-s.invariant.way;
  room = room_goes (flat_map (of_shard c.args.self.now.state) (numbers c.loop-s.s (c.args.self.now.state.set.config.shards - c.loop-s.s))) (of_shard c.args.self.now.state c.shard_at.result) (flat_map (of_shard c.args.self.now.state) (numbers (c.loop-s.s + 1) (c.args.self.now.state.set.config.shards - (c.loop-s.s + 1)))) c.loop-s.out c.remind_shard.new.out (tick_cut c.knows.ensures c.loop-s-test.true c.shards-s-end.ensures.value c.shard_at.ensures) c.remind_shard.ensures c.loop-s.invariant.room;
}
