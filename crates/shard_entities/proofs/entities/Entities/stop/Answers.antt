use Rattle.std.proofs.Common.{ap, sym, subst, ◌∙◌}
use Rattle.yard_model.specs.Script.{setting}
use Rattle.yard_model.specs.Setting.{shard_of}
use Rattle.shard_entities.specs.Lodged.{RoomIfHosted}
use Rattle.yard_model.specs.Entities.{cell, stop}
use Rattle.shard_entities.proofs.LoopLaws.{stays_idle, room_there, stopping_there}
use Rattle.shard_entities.proofs.entities.Entities.stop.Goals as goal

pub invariant_of-self : goal.invariant_of-self
invariant_of-self c = stays_idle (stop c.find-place.result.entity c.self.inside.shards.state) c.self.invariant c.stop.ensures.settled c.stop.ensures.state

pub stop-requires-clause-there : goal.stop-requires-clause-there
stop-requires-clause-there c = λ is. room_there c.knows.ensures c.find-place.ensures.place c.self.invariant.settled (ap (shard_of (setting c.self.inside.shards.script)) (sym c.find-place.ensures.entity) ∙ sym c.find-place.ensures.place.shard_is) (subst (λ v. RoomIfHosted v (shard_of (setting v.script) c.args.entity.now) 0) (sym c.self.view_is) c.requires.there) (stopping_there (cell c.self.inside.shards.state c.find-place.result.entity) is)
