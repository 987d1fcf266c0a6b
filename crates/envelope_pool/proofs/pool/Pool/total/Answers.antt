use Rattle.std.proofs.Common.{arith}
use Rattle.envelope_pool.proofs.CellLaws.{held_is}
use Rattle.envelope_pool.proofs.pool.Pool.total.Goals as goal

pub overflow_sub-result : goal.overflow_sub-result
overflow_sub-result g c = omega (arith, held_is c.self.inside.links.next.items c.self.inside.links.chains.items c.self.inside.items.items c.self.invariant, c.len-2.ensures, c.len.ensures)

pub returns-clause-count : goal.returns-clause-count
returns-clause-count g c = rw (← c.self.view_is) (omega (arith, held_is c.self.inside.links.next.items c.self.inside.links.chains.items c.self.inside.items.items c.self.invariant, c.len-2.ensures, c.len.ensures))
