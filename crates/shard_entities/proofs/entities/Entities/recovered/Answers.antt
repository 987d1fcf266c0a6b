use Rattle.std.proofs.Common.{ap, sym, subst, ◌∙◌}
use Rattle.std.specs.Prelude.{◌*◌}
use Rattle.yard_model.specs.Script.{setting}
use Rattle.yard_model.specs.Setting.{shard_of}
use Rattle.shard_entities.specs.Lodged.{RoomIfHosted}
use Rattle.yard_model.specs.Entities.{cell, recovered}
use Rattle.shard_entities.specs.Settled.{IsIdle}
use Rattle.shard_entities.proofs.LoopLaws.{stays_idle, room_there, loading_there}
use Rattle.shard_entities.proofs.entities.Entities.recovered.Goals as goal

pub invariant_of-self : goal.invariant_of-self
invariant_of-self g c = subst (IsIdle c.recovered.new.self) (sym c.recovered.ensures.pending) (stays_idle (recovered c.find-place.result.entity c.self.inside.shards.state) c.self.invariant c.recovered.ensures.settled c.recovered.ensures.state)

pub recovered-requires-clause-there : goal.recovered-requires-clause-there
recovered-requires-clause-there g c = λ is. room_there c.knows.ensures c.find-place.ensures.place c.self.invariant.settled (ap (shard_of (setting c.self.inside.shards.script)) (sym c.find-place.ensures.entity) ∙ sym c.find-place.ensures.place.shard_is) (subst (λ v. RoomIfHosted v (shard_of (setting v.script) c.args.entity.now) (2 * v.script.config.window)) (sym c.self.view_is) c.requires.there) (loading_there (cell c.self.inside.shards.state c.find-place.result.entity) is)
