use Rattle.std.proofs.Common.{◌+◌, ◌<◌, arith}
use Rattle.yard_model.specs.Script.{setting}
use Rattle.shard_entities.specs.Placed.{start_of}
use Rattle.shard_entities.proofs.OrderLaws.{inside_all}
use Rattle.shard_entities.proofs.restless.note.Goals as goal

pub put-requires : goal.put-requires
put-requires c =
    let inside : start_of (setting c.args.places.now) c.args.place.now.shard + c.args.place.now.inner < start_of (setting c.args.places.now) c.args.places.now.config.shards = inside_all (setting c.args.places.now) c.args.places.now.config.shards c.args.place.now.shard c.args.place.now.inner c.requires.place.shard_in c.requires.place.there.within in
    omega (arith, inside, c.spot.ensures, c.requires.bound)
