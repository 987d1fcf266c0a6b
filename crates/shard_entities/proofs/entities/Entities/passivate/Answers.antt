use Rattle.yard_model.specs.Entities.{passivate}
use Rattle.shard_entities.proofs.LoopLaws.{stays_idle}
use Rattle.shard_entities.proofs.WalkLaws.{passivated_settled}
use Rattle.std.proofs.Common.{subst}
use Rattle.yard_model.specs.Script.{setting}
use Rattle.yard_model.specs.Setting.{shard_of}
use Rattle.shard_entities.specs.Lodged.{Lodged}
use Rattle.shard_entities.specs.Roomy.{Takes}
use Rattle.shard_entities.proofs.RoomLaws.{passivate_takes}
use Rattle.shard_entities.proofs.entities.Entities.passivate.Goals as goal

pub invariant_of-self : goal.invariant_of-self
invariant_of-self c = stays_idle (passivate c.find-place.result.entity c.self.inside.shards.state) c.self.invariant (passivated_settled c.knows.ensures c.find-place.ensures.place c.self.invariant.settled c.passivate.ensures.state) c.passivate.ensures.state

pub returns-clause-takes : goal.returns-clause-takes
returns-clause-takes c = subst (λ (v : Lodged). Takes v c.passivate.new.self (shard_of (setting v.script) c.args.entity.now) 0) c.self.view_is (passivate_takes c.self.inside.shards (shard_of (setting c.self.inside.shards.script) c.args.entity.now) c.find-place.result.entity c.passivate.ensures.state)
