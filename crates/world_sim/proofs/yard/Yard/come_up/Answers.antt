use Rattle.yard_model.specs.World.{come_up, views}
use Rattle.world_sim.specs.Steps.{entered}
use Rattle.world_sim.specs.Yard.{IsSeen, IsSound}
use Rattle.world_sim.proofs.StepLaws.{step_cut, step_err, step_then}
use Rattle.world_sim.proofs.yard.Yard.come_up.Goals as goal

pub views-requires : goal.views-requires
views-requires g c = let r = c.requires.world in ((entered c.args.n r.0).world, (c.in_ok-enter.ensures.goes r.0 r.1).seen_is)

pub returns : goal.returns
returns g c = step_then IsSound IsSeen 1 0 (entered c.args.n) views c.views.result c.args.self.now c.enter.new.self c.views.new.self c.args.facts.now c.enter.new.facts c.views.new.facts c.in_ok-enter.ensures (λ w s k. (s.going_is, k.seen_is)) c.views.ensures

pub returns-in_err-enter : goal.returns-in_err-enter
returns-in_err-enter g c = step_err IsSound 1 (come_up c.args.n) c.from_residual.result _ _ _ _ c.from_residual.ensures.0 (step_cut IsSound (entered c.args.n) views c.args.self.now c.enter.new.self c.args.facts.now c.enter.new.facts c.in_err-enter.ensures)
