use Rattle.std.proofs.Common.{arith}
use Rattle.envelope_pool.proofs.CellLaws.{begun_lists, begun_pool}
use Rattle.envelope_pool.proofs.pool.Pool.new.Goals as goal

pub invariant_of-result : goal.invariant_of-result
invariant_of-result g c = rw c.in_ok-links.ensures.next (rw c.in_ok-links.ensures.chains (rw c.in_ok-items.ensures.items (begun_pool c.args.keys (omega arith) c.in_ok-links.ensures.room c.in_ok-items.ensures.capacity)))

pub returns-clause-lists : goal.returns-clause-lists
returns-clause-lists g c = rw c.in_ok-links.ensures.next (rw c.in_ok-links.ensures.chains (rw c.in_ok-items.ensures.items (begun_lists c.args.keys)))
