use Rattle.std.proofs.Common.{◌≡◌, ◌≤◌}
use Rattle.std.specs.Prelude.{replicate, None}
use Rattle.world_sim.proofs.places.no_nodes.Given as goal

abbrev pub invariant-loop : goal.invariant-loop
invariant-loop g l = (l.nodes.items ≡ replicate l.counter None) × (l.counter ≤ l.count)
