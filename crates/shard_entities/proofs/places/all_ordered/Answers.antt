use Rattle.shard_entities.proofs.OrderLaws.{begins, ordered_more, spot_inside}
use Rattle.shard_entities.proofs.places.all_ordered.Goals as goal

pub put-requires-clause-within : goal.put-requires-clause-within
put-requires-clause-within c = spot_inside c.args.charter.now c.loop-at.at c.args.spots.now c.loop-at.order.items c.requires.spots c.loop-at.invariant c.loop-at-test.true c.index-spots-at.is (begins c.args.charter.now c.loop-at.at c.args.spots.now c.args.starts.now.items c.requires.spots c.requires.starts c.loop-at-test.true c.index-spots-at.is c.start_in.ensures.start)

pub loop-at-preserved : goal.loop-at-preserved
loop-at-preserved c = ordered_more c.args.charter.now c.loop-at.at c.args.spots.now c.loop-at.order.items c.put.new.order.items c.requires.spots c.loop-at.invariant c.loop-at-test.true c.index-spots-at.is (begins c.args.charter.now c.loop-at.at c.args.spots.now c.args.starts.now.items c.requires.spots c.requires.starts c.loop-at-test.true c.index-spots-at.is c.start_in.ensures.start) c.put.ensures
