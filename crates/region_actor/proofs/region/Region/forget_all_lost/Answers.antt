use Rattle.std.proofs.Common.{◌∙◌}
use Rattle.region_actor.proofs.EachLaws.{lost, lost_apart, next_each}
use Rattle.region_actor.proofs.region.Region.forget_all_lost.Goals as goal

pub loop-i-preserved : goal.loop-i-preserved
loop-i-preserved c = record {
  way = next_each lost c.shards-shards.result _ _ _ _ _ _ _ c.loop-i.i lost_apart c.loop-i-test.true c.loop-i.invariant.way _ _ _
      (rw c.in-Some.ensures.value at c.forget_lost.ensures.state) (rw c.in-Some.ensures.value at c.forget_lost.ensures.items) (rw c.in-Some.ensures.value at c.forget_lost.ensures.spare);
  script = c.forget_lost.ensures.script ∙ c.loop-i.invariant.script;
}
