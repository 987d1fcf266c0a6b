use Rattle.std.proofs.Common.{◌∙◌}
use Rattle.yard_model.specs.Region.{ask_again}
use Rattle.region_actor.proofs.EachLaws.{ask_apart, next_each}
use Rattle.region_actor.proofs.region.Region.ask_each_again.Goals as goal

pub loop-i-preserved : goal.loop-i-preserved
loop-i-preserved c = record {
  way = next_each ask_again c.shards-shards.result _ _ _ _ _ _ _ c.loop-i.i ask_apart c.loop-i-test.true c.loop-i.invariant.way _ _ _
      (rw c.in-Some.ensures.value at c.ask_again.ensures.state) (rw c.in-Some.ensures.value at c.ask_again.ensures.items) (rw c.in-Some.ensures.value at c.ask_again.ensures.spare);
  script = c.ask_again.ensures.script ∙ c.loop-i.invariant.script;
}
