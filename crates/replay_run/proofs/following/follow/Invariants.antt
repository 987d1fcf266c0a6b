use Rattle.std.proofs.Common.{◌≡◌}
use Rattle.world_sim.specs.Played.{made_of}
use Rattle.replay_run.specs.Replays.{IsOn}
use Rattle.replay_run.proofs.following.follow.Given as goal

-- the trace goes on after the orders so far, whose facts were told
abbrev pub invariant-loop-k : goal.invariant-loop-k
invariant-loop-k g l = record {
  on : IsOn l.fn.world.script l.k l.world;
  told : l.facts ≡ (made_of l.fn.world.script l.k).facts;
}
