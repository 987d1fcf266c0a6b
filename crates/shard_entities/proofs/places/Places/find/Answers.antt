use Rattle.std.proofs.Common.{◌<◌, length, arith}
use Rattle.shard_entities.proofs.OrderLaws.{found, lent, lent_script, spot_there}
use Rattle.shard_entities.proofs.places.Places.find.Goals as goal

pub index-spot-requires : goal.index-spot-requires
index-spot-requires c = let inside : c.place-at.result < length c.deref-kept.result.now.spots.items = spot_there c.place-at.result (lent c.deref-kept.ensures c.self.invariant) (lent_script c.deref-kept.ensures c.self.view_is) c.place-at.ensures.within in omega (arith, inside)

pub returns-clause-place : goal.returns-clause-place
returns-clause-place c = found c.place-at.result (lent c.deref-kept.ensures c.self.invariant) (lent_script c.deref-kept.ensures c.self.view_is) c.place-at.ensures.within c.place-at.ensures.it c.index-spot.ensures
