use Rattle.std.specs.Prelude.{◌≤◌, ◌-◌, length, take}
use Rattle.node_core.specs.Again.{NamesSent}
use Rattle.node_core.proofs.actors.Actors.send_names_again.Given as goal

abbrev pub invariant-loop-at : goal.invariant-loop-at
invariant-loop-at g l = record {
  within : l.at ≤ length l.fn.self.state.set.names;
  sent : NamesSent l.fn.p (take l.at l.fn.self.state.set.names) l.fn.self l.self l.fn.out l.out;
}

abbrev pub decreases-loop-at : goal.decreases-loop-at
decreases-loop-at g l = l.names - l.at
