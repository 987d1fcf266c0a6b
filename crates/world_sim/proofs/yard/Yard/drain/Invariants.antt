use Rattle.std.proofs.Common.{◌-◌, ◌≤◌}
use Rattle.world_sim.proofs.DeliveryLaws.{Draining}
use Rattle.world_sim.proofs.yard.Yard.drain.Given as goal

abbrev pub invariant-loop : goal.invariant-loop
invariant-loop g l = record { draining : Draining l.fn.self l.fn.facts l.from l.n l.self l.facts (l.n - l.counter); within : l.counter ≤ l.n }
