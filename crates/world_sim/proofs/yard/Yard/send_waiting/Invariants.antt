use Rattle.std.proofs.Common.{◌-◌, ◌≤◌}
use Rattle.world_sim.proofs.ProduceLaws.{Sending}
use Rattle.world_sim.proofs.yard.Yard.send_waiting.Given as goal

abbrev pub invariant-loop : goal.invariant-loop
invariant-loop g l = record { sending : Sending l.fn.self l.fn.facts l.p l.n l.count l.self l.facts (l.count - l.counter); within : l.counter ≤ l.count }
