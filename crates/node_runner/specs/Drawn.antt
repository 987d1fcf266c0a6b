-- What a worker draws.
use Rattle.std.specs.Prelude.{ℕ, ◌+◌, ◌*◌, ◌%◌, ◌==◌, if◌then◌else◌}
use Rattle.rand_core.specs.Pcg32Seed.{pcg32_seed}
use Rattle.rand_pcg.specs.Lcg.{Lcg}
use Rattle.rand_pcg.specs.Pcg.{pcg32_of_seed}
use Rattle.node_runner.specs.declared.draws.Fate.{Fate}
use Rattle.node_runner.specs.declared.draws.Fate.TheVariants.{Lost, Twice, Later, Once}

-- the generator with which the worker of a node begins
abbrev pub first_of : ℕ → ℕ → Lcg
first_of seed node = pcg32_of_seed (pcg32_seed 16 (16 * seed + node))

-- what a word makes of a packet
abbrev pub fate : ℕ → Fate
fate v = if v % 16 == 0 then Lost else (if v % 16 == 1 then Twice else (if v % 16 == 2 then Later else Once))
