use Rattle.std.proofs.Common.{◌≡◌, ◌≤◌, ◌+◌, sym, refl, arith}
use Rattle.node_core.proofs.AgainLaws.{shards_stepped}
use Rattle.node_core.proofs.actors.Actors.tick_shards.Goals as goal

pub start_all_again-requires-clause-room : goal.start_all_again-requires-clause-room
start_all_again-requires-clause-room g c = let room = c.requires.room in omega (arith, room)

pub tick_entities-requires : goal.tick_entities-requires
tick_entities-requires g c = let room = c.requires.room in let spent = c.start_all_again.ensures.room in record { room = omega (arith, room, spent) }

pub returns : goal.returns
returns g c = shards_stepped c.args.self.now.script.config.shards refl c.tick_laws.ensures c.start_all_again.ensures c.tick_entities.ensures.went c.tick_entities.ensures.room c.tick_entities.ensures.rooms
