use Rattle.std.proofs.Common.{◌≡◌, fold}
use Rattle.std.specs.Prelude.{drop}
use Rattle.yard_model.specs.World.{number_step}
use Rattle.world_sim.proofs.NumberLaws.{joined}
use Rattle.world_sim.proofs.numbers.in_shards.Given as goal

abbrev pub invariant-loop-i : goal.invariant-loop-i
invariant-loop-i g l = fold number_step l.greatest (joined (drop l.i (g.L.Lists.lists l.lists).shards)) ≡ fold number_step 0 (joined (g.L.Lists.lists l.lists).shards)
