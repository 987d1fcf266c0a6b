use Rattle.std.proofs.Common.{◌∙◌, ap}
use Rattle.shard_entities.specs.Lodged.{Lodged}
use Rattle.shard_entities.proofs.SettleLaws.{cleared_each}
use Rattle.shard_entities.proofs.shards.Shards.clear_each.Goals as goal

pub loop-k-preserved : goal.loop-k-preserved
loop-k-preserved c = record {
  way = cleared_each c.loop-k.self c.args.self.now c.args.s c.loop-k.invariant.script c.loop-k-test.true c.count-k-end.ensures.count c.nth-place.ensures.entity c.clear.ensures c.loop-k.invariant.way;
  script = ap (λ (v : Lodged). v.script) c.clear.ensures ∙ c.loop-k.invariant.script;
}
