use Rattle.std.proofs.Common.{◌∙◌}
use Rattle.envelope_pool.specs.Chains.{chains_of}
use Rattle.envelope_pool.proofs.CellLaws.{key_inside, len_listed}
use Rattle.envelope_pool.proofs.pool.Pool.len.Goals as goal

pub returns : goal.returns
returns g c = rw (← c.self.view_is) (c.len.ensures ∙ len_listed c.self.inside.items.items c.self.inside.links.next.items c.self.inside.links.chains.items c.args.key (key_inside c.self.inside.items.items (chains_of c.self.inside.links.next.items c.self.inside.links.chains.items) c.self.inside.cells c.args.key c.args.self.now c.self.view_is c.requires) c.self.invariant.filled)
