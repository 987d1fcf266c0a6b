use Rattle.std.proofs.Common.{arith}
use Rattle.shard_entities.proofs.OrderLaws.{lent, lent_script, start_read, starts_there}
use Rattle.shard_entities.proofs.places.Places.start.Goals as goal

pub start_in-requires : goal.start_in-requires
start_in-requires c = starts_there c.args.s (lent c.deref-kept.ensures c.self.invariant) (lent_script c.deref-kept.ensures c.self.view_is) (omega (arith, c.requires))

pub returns-clause-start : goal.returns-clause-start
returns-clause-start c = start_read c.args.s (lent c.deref-kept.ensures c.self.invariant) (lent_script c.deref-kept.ensures c.self.view_is) (omega (arith, c.requires)) c.start_in.ensures.start
