use Rattle.yard_model.specs.Entities.{hand_off}
use Rattle.shard_entities.proofs.LoopLaws.{stays_idle}
use Rattle.shard_entities.proofs.entities.Entities.hand_off.Goals as goal

pub invariant_of-self : goal.invariant_of-self
invariant_of-self c = stays_idle (hand_off c.args.s c.args.stamp c.args.to c.self.inside.shards.state) c.self.invariant c.hand_off.ensures.settled c.hand_off.ensures.state
