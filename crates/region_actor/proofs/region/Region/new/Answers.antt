use Rattle.std.proofs.Common.{ap, ◌∙◌}
use Rattle.yard_model.specs.declared.charter.Config.{Config}
use Rattle.region_actor.proofs.RegionLaws.{region_new}
use Rattle.region_actor.proofs.region.Region.new.Goals as goal

pub invariant_of-result : goal.invariant_of-result
invariant_of-result c = region_new c.of.result.value c.args.charter.now _ _ _ _ _ c.of.ensures c.config-config.ensures.script (ap (λ (k : Config). k.shards) c.config-config.ensures.value)
    c.in_ok-homes.ensures c.in_ok-marks.ensures c.in_ok-asked.ensures c.in_ok-kept.ensures.lists (c.in_ok-kept.ensures.buffer ∙ ap (λ (k : Config). k.buffer) c.config-config.ensures.value)
