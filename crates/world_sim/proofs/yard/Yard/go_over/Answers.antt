use Rattle.std.proofs.Common.{refl}
use Rattle.world_sim.specs.Steps.{upgraded}
use Rattle.world_sim.specs.Yard.{IsSound}
use Rattle.world_sim.proofs.StepLaws.{cut_none, step_err}
use Rattle.world_sim.proofs.yard.Yard.go_over.Goals as goal

pub returns-in_err-push : goal.returns-in_err-push
returns-in_err-push g c = step_err IsSound 0 upgraded c.from_residual.result _ _ _ _ c.from_residual.ensures.0 (cut_none IsSound upgraded _ _ _ _ refl c.in_err-push.ensures.err)
