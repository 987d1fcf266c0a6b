use Rattle.std.proofs.Common.{ap, arith, length, length-take}
use Rattle.coordinator_actor.proofs.flags.Flags.len.Goals as goal

pub returns-clause-value : goal.returns-clause-value
returns-clause-value c = omega (arith, ap length c.self.view_is, length-take c.self.inside.len c.self.inside.cells, c.self.invariant, c.self.told)

pub returns-clause-few : goal.returns-clause-few
returns-clause-few c = c.self.invariant
