use Rattle.std.proofs.Common.{refl}
use Rattle.world_sim.specs.Yard.{IsSound}
use Rattle.world_sim.specs.Steps.{marked}
use Rattle.world_sim.proofs.DeliveryLaws.{marked_whole}
use Rattle.world_sim.proofs.StepLaws.{cut_none, step_err}
use Rattle.world_sim.proofs.yard.Yard.mark.Goals as goal

pub returns : goal.returns
returns g c =
    let t = c.got.ensures in
    marked_whole _ c.args.self.now c.got.new.self c.args.number c.args.facts.now c.push.new.self c.self.view_is t.packets t.fresh t.items t.full c.in_ok-push.ensures.ok

pub returns-in_err-push : goal.returns-in_err-push
returns-in_err-push g c = step_err IsSound 0 (marked c.args.number) c.from_residual.result _ _ _ _ c.from_residual.ensures.0 (cut_none IsSound (marked c.args.number) _ _ _ _ refl c.in_err-push.ensures.err)
