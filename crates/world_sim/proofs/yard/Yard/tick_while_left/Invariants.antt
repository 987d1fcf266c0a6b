use Rattle.std.proofs.Common.{◌-◌, ◌≤◌}
use Rattle.yard_model.specs.World.{tick_while_left}
use Rattle.world_sim.specs.Yard.{IsBacked}
use Rattle.world_sim.proofs.LoopLaws.{OnWay}
use Rattle.world_sim.proofs.yard.Yard.tick_while_left.Given as goal

abbrev pub invariant-loop : goal.invariant-loop
invariant-loop g l = record { way : OnWay IsBacked (tick_while_left l.from l.bound) l.bound 0 l.fn.self l.fn.facts l.self l.facts (l.bound - l.counter); within : l.counter ≤ l.bound }
