use Rattle.shard_entities.proofs.HostLaws.{ended_stands, ended_moved}
use Rattle.shard_entities.proofs.ReadyLaws.{ended_ready, shard_inside}
use Rattle.shard_entities.proofs.shards.Shards.set_stopping.Goals as goal

pub invariant_of-self : goal.invariant_of-self
invariant_of-self c = record {
  kept = record {
    lodged = ended_stands (record { stamp = c.args.stamp.now; to = c.args.to.now }) c.self.invariant.kept.lodged c.self.view_is c.requires.shard c.get.ensures.value c.index_mut.ensures.value c.set_ending.ensures c.without-running.ensures.it c.without-running.ensures.others;
    counted = c.self.invariant.kept.counted;
  };
  ready = ended_ready (record { stamp = c.args.stamp.now; to = c.args.to.now }) c.self.invariant.ready (shard_inside c.self.invariant.kept.lodged c.self.view_is c.requires.shard c.get.ensures.value) c.index_mut.ensures.value c.set_ending.ensures;
  restless = c.self.invariant.restless;
}

pub returns : goal.returns
returns c = ended_moved (record { stamp = c.args.stamp.now; to = c.args.to.now }) c.self.invariant.kept.lodged c.self.view_is c.requires.shard c.get.ensures.value c.index_mut.ensures.value c.set_ending.ensures
