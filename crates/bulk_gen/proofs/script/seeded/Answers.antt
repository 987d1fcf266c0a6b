use Rattle.std.proofs.Common.{◌∙◌, ap}
use Rattle.rand_core.specs.Pcg32Seed.{pcg32_seed}
use Rattle.rand_pcg.specs.Pcg.{pcg32_of_seed}
use Rattle.bulk_gen.specs.Bulk.{seeded}
use Rattle.bulk_gen.proofs.script.seeded.Goals as goal

pub returns : goal.returns
unfolding seeded
returns c = c.seed_from_u64.ensures ∙ ap (λ k. pcg32_of_seed (pcg32_seed 16 k)) c.from.ensures
