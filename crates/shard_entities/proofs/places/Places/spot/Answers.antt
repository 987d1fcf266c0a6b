use Rattle.std.proofs.Common.{◌≡◌, ◌≤◌, length, arith}
use Rattle.yard_model.specs.Script.{setting}
use Rattle.yard_model.specs.Setting.{names_of}
use Rattle.shard_entities.specs.Placed.{start_of}
use Rattle.shard_entities.proofs.OrderLaws.{count_few, lent, lent_script, start_read, starts_there}
use Rattle.shard_entities.proofs.places.Places.spot.Goals as goal

pub start_in-requires : goal.start_in-requires
start_in-requires c = starts_there c.args.place.now.shard (lent c.deref-kept.ensures c.self.invariant) (lent_script c.deref-kept.ensures c.self.view_is) (omega (arith, c.requires.shard_in))

pub overflow_add-result : goal.overflow_add-result
overflow_add-result c =
    let few : length (names_of (setting c.args.self.now) c.args.place.now.shard) ≤ 1000 = count_few c.args.place.now.shard (lent c.deref-kept.ensures c.self.invariant) (lent_script c.deref-kept.ensures c.self.view_is) in
    omega (arith, few, c.requires.there.within, c.start_in.ensures.few)

pub returns : goal.returns
returns c =
    let begins : c.start_in.result ≡ start_of (setting c.args.self.now) c.args.place.now.shard = start_read c.args.place.now.shard (lent c.deref-kept.ensures c.self.invariant) (lent_script c.deref-kept.ensures c.self.view_is) (omega (arith, c.requires.shard_in)) c.start_in.ensures.start in
    omega (arith, begins)
