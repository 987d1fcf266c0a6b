use Rattle.yard_model.specs.Entities.{start_remembered}
use Rattle.shard_entities.specs.Lodged.{Lodged, hosting}
use Rattle.shard_entities.proofs.LoopLaws.{started_idle}
use Rattle.std.proofs.Common.{subst}
use Rattle.shard_entities.specs.Roomy.{Takes}
use Rattle.shard_entities.proofs.RoomLaws.{start_takes}
use Rattle.shard_entities.proofs.entities.Entities.start.Goals as goal

pub invariant_of-self : goal.invariant_of-self
invariant_of-self c = started_idle c.args.s c.args.store (start_remembered c.args.s (hosting c.self.inside.shards c.args.s c.args.store).state) c.self.invariant c.start.ensures.settled c.start.ensures.state

pub returns-clause-takes : goal.returns-clause-takes
returns-clause-takes c = subst (λ (v : Lodged). Takes (hosting v c.args.s c.args.store) c.start.new.self c.args.s 0) c.self.view_is (start_takes (hosting c.self.inside.shards c.args.s c.args.store) c.args.s c.args.s c.start.ensures.state)
