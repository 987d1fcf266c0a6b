use Rattle.std.proofs.Common.{◌+◌, ◌-◌, ◌≤◌}
use Rattle.yard_model.specs.Words.{numbers}
use Rattle.world_sim.specs.Yard.{IsSound}
use Rattle.world_sim.proofs.LoopLaws.{OnWay}
use Rattle.world_sim.proofs.SettleLaws.{takes}
use Rattle.world_sim.proofs.yard.Yard.take_all.Given as goal

abbrev pub invariant-loop-i : goal.invariant-loop-i
invariant-loop-i g l = record {
  way : OnWay IsSound takes (numbers 1 l.fn.self.script.config.producers) 0 l.fn.self l.fn.facts l.self l.facts (numbers (l.i + 1) (l.fn.self.script.config.producers - l.i));
  within : l.i ≤ l.fn.self.script.config.producers;
}
